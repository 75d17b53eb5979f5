-- The open command: the test over its octets is the model's.
use Prim.Native.Nat.{ℕ, zero, suc, ◌+◌, ◌≤◌}
use native.Mathlib.Omega.{arith}
use mathlib.Core.Path.{◌≡◌, refl, sym, ap, ◌∙◌}
use mathlib.Core.Bool.{Bool, true, false, ◌&&◌}
use mathlib.Core.List.{List, [], ◌∷◌, ◌++◌}
use mathlib.Core.Option.{none, some}
use mathlib.Core.Logic.{◌⊎◌, inl, inr, ⊎_elim}
use lib.ListN.{length, take, drop, replicate, drop_of_length-le, length-take}
use lib.Seq.{take_all, take-take}
use lib.Dec.{eqb}
use borrow.Author.Tests.{eq-eqb, ne_eqb, eqb-true}
use Rattle.model.specs.Codes as Codes
use Rattle.model.specs.declared.RadioSettings.{RadioSettings}
use Rattle.model.specs.Octets.{Octets, all_zero, bytes, le16, same, u16}
use Rattle.model.specs.State.{Controller, OpenCommand}
use Rattle.model.specs.Rules.{RadioRule, radio, set_bredr, set_connectable, set_discoverable, set_low_energy, set_powered, set_static_address}
use Rattle.model.specs.Commands.{Row, find, rows, rule}
use Rattle.model.specs.Hub.{starts, starts_by}
use Rattle.model.specs.WellFormed.{open_ok}
use Rattle.model.specs.Layout.{open_part, open_with, size_of}
use Rattle.model.proofs.Model.Decode.{started_by}
use Rattle.model.proofs.Model.Tables.{bytes_take, eqb_self, same_refl}
use Rattle.model.proofs.Model.Tests.{no_way, and_off}
use Rattle.octets.specs.Parts.{part}
use Rattle.octets.proofs.Parts.{length_part}
use Rattle.rules.specs.Decisions.{decision, is_started}
use Rattle.rules.proofs.Ties.{starts_is}
use Rattle.checks.proofs.Tests.{and_on, le16_part, one_test, part_add, same_append, same_zeros}
use Rattle.model.proofs.Model.Room.{length_le16}
use Rattle.checks.specs.Open.{started_octets_ok, open_octets_ok}

-- 1. The test -------------------------------------------------------------------------------------------------------------------------------

-- with code zero, the parameters must be zero
pub fine_none : (x : RadioSettings) (code : ℕ) (ps : Octets) → code ≡ 0 → open_octets_ok x code ps ≡ all_zero ps
unfolding open_octets_ok
fine_none x code ps e = rw (eq-eqb code 0 e, open_octets_ok)

-- with another code, the command must be one that would be started
pub fine_some : (x : RadioSettings) (code : ℕ) (ps : Octets) → (code ≡ 0 → ⊥) → open_octets_ok x code ps ≡ started_octets_ok x code ps
unfolding open_octets_ok
fine_some x code ps n = rw (ne_eqb code 0 n, open_octets_ok)

-- 2. It is the model's --------------------------------------------------------------------------------------------------------------------------

-- three octets are those of n parameters with zeros behind them, if the octets behind the first n are zero
padded : (ps : Octets) (n : ℕ) → length ps ≡ 3 → n ≤ 3 → same ps (take 3 (take n ps ++ replicate 3 0)) ≡ all_zero (drop n ps)
unfolding same all_zero
padded [] n l h = absurd (omega arith)
padded (a ∷ []) n l h = absurd (omega arith)
padded (a ∷ b ∷ []) n l h = absurd (omega arith)
padded (a ∷ b ∷ c ∷ []) zero l h = refl
padded (a ∷ b ∷ c ∷ []) (suc zero) l h = rw (eqb_self a)
padded (a ∷ b ∷ c ∷ []) (suc (suc zero)) l h = rw (eqb_self a, eqb_self b)
padded (a ∷ b ∷ c ∷ []) (suc (suc (suc zero))) l h = rw (eqb_self a, eqb_self b, eqb_self c)
padded (a ∷ b ∷ c ∷ []) (suc (suc (suc (suc n)))) l h = absurd (omega arith)
padded (a ∷ b ∷ c ∷ d ∷ ps) n l h = absurd (omega arith)

-- a command that would be started has at most three parameter octets, so three octets tell what all that follow tell
starts_short : (x : RadioSettings) (code : ℕ) (ps : Octets) → starts_by x (take (size_of (rule code)) ps) (rule code) ≡ true → size_of (rule code) ≤ 3
starts_short x code ps e = (started_by x (record { code = code; params = take (size_of (rule code)) ps }) (rule code) refl e).three

-- so whether it would be started shows in the first three octets behind its code
starts_three : (x : RadioSettings) (code : ℕ) (ps : Octets)
    → starts_by x (take (size_of (rule code)) ps) (rule code) ≡ starts_by x (take (size_of (rule code)) (take 3 ps)) (rule code)
starts_three x code ps = one_test _ _ down up
  where
    n : ℕ
    n = size_of (rule code)

    cut : n ≤ 3 → take n (take 3 ps) ≡ take n ps
    cut h = take-take n 3 ps h

    down : starts_by x (take n ps) (rule code) ≡ true → starts_by x (take n (take 3 ps)) (rule code) ≡ true
    down e = rw (cut (starts_short x code ps e)) e

    up : starts_by x (take n (take 3 ps)) (rule code) ≡ true → starts_by x (take n ps) (rule code) ≡ true
    up e = rw (cut (starts_short x code (take 3 ps) e)) at e

-- the code's two octets, and three of parameters
five : (s : Octets) (at : ℕ) → bytes s ≡ true → at + 5 ≤ length s → part s at 5 ≡ le16 (u16 s at) ++ part s (at + 2) 3
five s at w h = part_add s at 2 3 ∙ rw (← le16_part s at w (omega arith))

-- code zero is two zero octets
zero_code : same (le16 0) (replicate 2 0) ≡ true
unfolding le16 same
zero_code = refl

-- nothing under way: all five octets are zero
none_is : (s : Octets) (at : ℕ) → bytes s ≡ true → at + 5 ≤ length s → u16 s at ≡ 0 → same (part s at 5) (open_part none) ≡ all_zero (part s (at + 2) 3)
unfolding open_part
none_is s at w h e =
    let l : length (part s (at + 2) 3) ≡ 3 = length_part s (at + 2) 3 (omega arith) in
    rw (five s at w h, e) (same_append (le16 0) (part s (at + 2) 3) (replicate 2 0) (replicate 3 0) (length_le16 0)
    ∙ rw zero_code (same_zeros (part s (at + 2) 3) 3 l))

-- a command under way: its parameters, and zeros behind them
some_is : (s : Octets) (at n : ℕ) (ps : Octets) → bytes s ≡ true → at + 5 ≤ length s → n ≤ 3 → take 3 ps ≡ part s (at + 2) 3
    → same (part s at 5) (open_part (some (record { code = u16 s at; params = take n ps }))) ≡ all_zero (drop n (part s (at + 2) 3))
unfolding open_part
some_is s at n ps w h le e =
    let q : Octets = part s (at + 2) 3 in
    let l : length q ≡ 3 = length_part s (at + 2) 3 (omega arith) in
    let f : take n ps ≡ take n q = sym (take-take n 3 ps le) ∙ ap (take n) e in
    rw (five s at w h, f)
    (same_append (le16 (u16 s at)) q (le16 (u16 s at)) (take 3 (take n q ++ replicate 3 0)) refl
    ∙ rw (same_refl (le16 (u16 s at))) (padded q n l le))

module _ (c : Controller) (s : Octets) (at : ℕ) (ps : Octets) (w : bytes s ≡ true) (b : bytes ps ≡ true) (h : at + 5 ≤ length s)
    (e : take 3 ps ≡ part s (at + 2) 3) where
  -- the code is not zero: it would be started, or the test fails
  started_is : (o : OpenCommand) → o ≡ record { code = u16 s at; params = take (size_of (rule (u16 s at))) ps }
      → open_ok (some c) (some o) && same (part s at 5) (open_part (some o)) ≡ started_octets_ok c.radio (u16 s at) (part s (at + 2) 3)
  unfolding open_ok starts started_octets_ok
  started_is o q = rw q (go (starts_by c.radio (take n ps) (rule (u16 s at))) refl)
    where
      n : ℕ
      n = size_of (rule (u16 s at))

      t : starts_by c.radio (take n ps) (rule (u16 s at)) ≡ starts_by c.radio (take n (part s (at + 2) 3)) (rule (u16 s at))
      t = starts_three c.radio (u16 s at) ps ∙ rw e

      go : (x : Bool) → starts_by c.radio (take n ps) (rule (u16 s at)) ≡ x
          → (x && bytes (take n ps)) && same (part s at 5) (open_part (some (record { code = u16 s at; params = take n ps }))) ≡ starts_by c.radio
          (take n (part s (at + 2) 3)) (rule (u16 s at)) && all_zero (drop n (part s (at + 2) 3))
      go true f = rw (bytes_take n ps b, ← t, f) (some_is s at n ps w h (starts_short c.radio (u16 s at) ps f) e)
      go false f = rw (← t, f)

  -- what stands at the place is valid, and its octets are the one encoding of it
  pub open_is : open_ok (some c) (open_with (u16 s at) ps)
      && same (part s at 5) (open_part (open_with (u16 s at) ps)) ≡ open_octets_ok c.radio (u16 s at) (part s (at + 2) 3)
  unfolding open_with open_octets_ok open_ok
  open_is = go (eqb (u16 s at) 0) refl
    where
      nothing : eqb (u16 s at) 0 ≡ true → open_ok (some c) none && same (part s at 5) (open_part none) ≡ all_zero (part s (at + 2) 3)
      nothing f = none_is s at w h (eqb-true (u16 s at) 0 f)

      go : (x : Bool) → eqb (u16 s at) 0 ≡ x
          → open_ok (some c) (elim x [ true ↦ none | false ↦ some (record { code = u16 s at; params = take (size_of (rule (u16 s at))) ps }) ])
          && same (part s at 5) (open_part (elim x [ true ↦ none | false ↦ some (record { code = u16 s at; params = take (size_of (rule (u16 s at))) ps }) ]))
          ≡ elim x [ true ↦ all_zero (part s (at + 2) 3) | false ↦ started_octets_ok c.radio (u16 s at) (part s (at + 2) 3) ]
      go true f = nothing f
      go false f = started_is _ refl

-- 3. By code ------------------------------------------------------------------------------------------------------------------------------------

-- a command of this size, whose octets behind its parameters are zero
radio_is : (x : RadioSettings) (code : ℕ) (ps : Octets) (r : RadioRule) → rule code ≡ some (radio r)
    → started_octets_ok x code ps ≡ starts_by x (take r.size ps) (some (radio r)) && all_zero (drop r.size ps)
unfolding started_octets_ok size_of
radio_is x code ps r e = rw e

module _ (x : RadioSettings) (ps : Octets) (l : length ps ≡ 3) where
  -- the first of three octets makes parameters of length one
  first : length (take 1 ps) ≡ 1
  first = simp length-take (omega arith)

  -- Set Powered, Set Connectable, Set Low Energy and Set BR/EDR have one parameter octet
  pub fine_powered : (code : ℕ) → code ≡ Codes.set_powered → started_octets_ok x code ps ≡ is_started (decision set_powered x (take 1 ps)) && all_zero (drop 1 ps)
  unfolding rule find rows set_powered
  fine_powered code e = rw e (radio_is x Codes.set_powered ps set_powered refl ∙ rw (starts_is set_powered x (take 1 ps) first))

  -- the same, of Set Connectable
  pub fine_connectable : (code : ℕ) → code ≡ Codes.set_connectable → started_octets_ok x code ps ≡ is_started (decision set_connectable x (take 1 ps))
      && all_zero (drop 1 ps)
  unfolding rule find rows set_connectable
  fine_connectable code e = rw e (radio_is x Codes.set_connectable ps set_connectable refl ∙ rw (starts_is set_connectable x (take 1 ps) first))

  -- the same, of Set Low Energy
  pub fine_low_energy : (code : ℕ) → code ≡ Codes.set_low_energy → started_octets_ok x code ps ≡ is_started (decision set_low_energy x (take 1 ps))
      && all_zero (drop 1 ps)
  unfolding rule find rows set_low_energy
  fine_low_energy code e = rw e (radio_is x Codes.set_low_energy ps set_low_energy refl ∙ rw (starts_is set_low_energy x (take 1 ps) first))

  -- the same, of Set BR/EDR
  pub fine_bredr : (code : ℕ) → code ≡ Codes.set_bredr → started_octets_ok x code ps ≡ is_started (decision set_bredr x (take 1 ps)) && all_zero (drop 1 ps)
  unfolding rule find rows set_bredr
  fine_bredr code e = rw e (radio_is x Codes.set_bredr ps set_bredr refl ∙ rw (starts_is set_bredr x (take 1 ps) first))

  -- Set Discoverable has three
  pub fine_discoverable : (code : ℕ) → code ≡ Codes.set_discoverable → started_octets_ok x code ps ≡ is_started (decision set_discoverable x ps)
  unfolding rule find rows set_discoverable all_zero
  fine_discoverable code e =
      rw e (radio_is x Codes.set_discoverable ps set_discoverable refl
      ∙ rw (take_all 3 ps (omega arith), starts_is set_discoverable x ps l, drop_of_length-le ps {i = 3} (omega arith))
      (and_on (is_started (decision set_discoverable x ps))))

-- no other command waits
Quiet : ℕ → List Row → Type 0
Quiet code [] = Unit {0}
Quiet code (r ∷ rs) = ((eqb r.0 code ≡ false) ⊎ ((x : RadioSettings) (ps : Octets) → starts_by x ps (some r.1) ≡ false)) × Quiet code rs

-- where each row has another code or never waits, the command of that code never waits
quiet_found : (x : RadioSettings) (ps : Octets) (code : ℕ) (rs : List Row) → Quiet code rs → starts_by x ps (find code rs) ≡ false
unfolding Quiet find starts_by
quiet_found x ps code [] q = refl
quiet_found x ps code (r ∷ rs) q = go (eqb r.0 code) refl (quiet_found x ps code rs q.1)
  where
    go : (b : Bool) → eqb r.0 code ≡ b → starts_by x ps (find code rs) ≡ false → starts_by x ps (elim b [ true ↦ some r.1 | false ↦ find code rs ]) ≡ false
    go true e i = ⊎_elim (λ n. no_way (sym e ∙ n)) (λ h. h x ps) q.0
    go false e i = i

-- Set Static Address acts at once
static_acts : (x : RadioSettings) (ps : Octets) → starts_by x ps (some (radio set_static_address)) ≡ false
unfolding starts_by set_static_address
static_acts x ps = rw (and_off, and_off, and_off)

-- so it is for every code but the five of the commands that can wait
quiet : (code : ℕ) → (code ≡ Codes.set_powered → ⊥) → (code ≡ Codes.set_discoverable → ⊥) → (code ≡ Codes.set_connectable → ⊥)
    → (code ≡ Codes.set_low_energy → ⊥) → (code ≡ Codes.set_bredr → ⊥) → Quiet code rows
unfolding Quiet rows starts_by
quiet code n5 n6 n7 n13 n42 = (
  inr (λ x ps. refl),
  (
    inr (λ x ps. refl),
    (
      inr
          (λ x ps. refl),
      (
        inr (λ x ps. refl),
        (
          inl (ne_eqb 5 code (λ e. n5 (sym e))),
          (
            inl
                (ne_eqb 6 code (λ e. n6 (sym e))),
            (
              inl (ne_eqb 7 code (λ e. n7 (sym e))),
              (
                inr
                    (λ x ps. refl),
                (
                  inl (ne_eqb 13 code (λ e. n13 (sym e))),
                  (
                    inr
                        (λ x ps. refl),
                    (
                      inr (λ x ps. refl),
                      (
                        inr (λ x ps. refl),
                        (
                          inr
                              (λ x ps. refl),
                          (
                            inr (λ x ps. refl),
                            (
                              inr (λ x ps. refl),
                              (
                                inr
                                    (λ x ps. refl),
                                (
                                  inr (λ x ps. refl),
                                  (
                                    inl (ne_eqb 42 code (λ e. n42 (sym e))),
                                    (
                                      inr static_acts,
                                      (
                                        inr (λ x ps. refl),
                                        (
                                          inr (λ x ps. refl),
                                          (
                                            inr (λ x ps. refl),
                                            (inr (λ x ps. refl), (inr (λ x ps. refl), tt)),
                                          ),
                                        ),
                                      ),
                                    ),
                                  ),
                                ),
                              ),
                            ),
                          ),
                        ),
                      ),
                    ),
                  ),
                ),
              ),
            ),
          ),
        ),
      ),
    ),
  ),
)

-- an open command of any other code is never fine
pub fine_other : (x : RadioSettings) (ps : Octets) (code : ℕ) → (code ≡ Codes.set_powered → ⊥) → (code ≡ Codes.set_discoverable → ⊥)
    → (code ≡ Codes.set_connectable → ⊥) → (code ≡ Codes.set_low_energy → ⊥) → (code ≡ Codes.set_bredr → ⊥)
    → started_octets_ok x code ps ≡ false
unfolding started_octets_ok rule
fine_other x ps code n5 n6 n7 n13 n42 = rw (quiet_found x (take (size_of (rule code)) ps) code rows (quiet code n5 n6 n7 n13 n42))
