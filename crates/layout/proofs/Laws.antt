-- Laws that the proofs of this crate cite, over plain lists and numbers, in the form in which the code leaves them.
use mathlib.Core.Path.{◌≡◌, refl, sym, ◌∙◌}
use Prim.Native.Nat.{ℕ, zero, suc, ◌+◌, ◌-◌, ◌≤◌, ◌<◌}
use native.Mathlib.Omega.{arith}
use native.Mathlib.Nat.{add-zero}
use mathlib.Core.List.{List, [], ◌∷◌}
use mathlib.Core.Option.{some}
use lib.ListN.{length, get_or, take, drop, replicate, length-take}
use lib.Dec.{lit≤}
use borrow.Author.Tests.{eq-eqb, ne_eqb, le-leb, lt-leb, le-ltb, lt-ltb}
use Rattle.model.specs.Lengths as Lengths
use Rattle.model.specs.declared.Settings.{Settings}
use Rattle.model.specs.Octets.{Octets, le16, used_part}
use Rattle.model.specs.State.{name_part}
use Rattle.model.specs.Hub.{with_open}
use Rattle.model.specs.Layout.{decode, encode, settings_part}
use Rattle.model.proofs.Model.Names.{length_used}
use Rattle.octets.specs.Parts.{part, place_at, write_at}
use Rattle.octets.proofs.Parts.{part_first, part_part, write_split}
use Rattle.layout.specs.Places.{Ready, base, controller_of, place_of, put_controller, settings_head, sizes, table_place}
use Rattle.rules.specs.Effects.{with_settings}
use Rattle.layout.proofs.Change.{settings_changed_lem}
use Rattle.layout.proofs.Open.{open_put}
use Rattle.layout.proofs.Reading.{name_at}

-- a test of the code, as the model's test
pub ruleset tests = (eq-eqb, ne_eqb, le-leb, lt-leb, le-ltb, lt-ltb)

-- where the tables lie in a block
abbrev pub offsets : List ℕ
offsets = 293 ∷ 841 ∷ 1645 ∷ 2801 ∷ 3541 ∷ 3769 ∷ []

-- inside it
pub offset_below : (k : ℕ) → get_or offsets k 0 < Lengths.block
offset_below zero = omega arith
offset_below (suc zero) = omega arith
offset_below (suc (suc zero)) = omega arith
offset_below (suc (suc (suc zero))) = omega arith
offset_below (suc (suc (suc (suc zero)))) = omega arith
offset_below (suc (suc (suc (suc (suc zero))))) = omega arith
offset_below (suc (suc (suc (suc (suc (suc k)))))) = omega arith

-- by the sizes of the pieces
offset_is : (k : ℕ) → k < 6 → get_or offsets k 0 ≡ place_at sizes (5 + k)
unfolding place_at sizes
offset_is zero l = refl
offset_is (suc zero) l = refl
offset_is (suc (suc zero)) l = refl
offset_is (suc (suc (suc zero))) l = refl
offset_is (suc (suc (suc (suc zero)))) l = refl
offset_is (suc (suc (suc (suc (suc zero))))) l = refl
offset_is (suc (suc (suc (suc (suc (suc k)))))) l = absurd (omega arith)

-- where the model puts them
pub table_is : (i k : ℕ) → k < 6 → base i + get_or offsets k 0 ≡ table_place i k
unfolding table_place place_of
table_is i k l = rw (offset_is k l)

-- the flags and the timer, then the address
pub settings_put : (s : Octets) (i : ℕ) (m : Settings) → Ready s i → length m.radio.static_address ≡ 6
    → write_at (write_at s (base i + 19) (settings_head m)) (base i + 27) m.radio.static_address ≡ encode
    (put_controller (decode s) i (with_settings (controller_of s i) m))
unfolding place_of place_at sizes settings_head settings_part le16
settings_put s i m r n =
    let e : base i + 27 ≡ base i + 19 + 8 = omega arith in
    rw e (sym (write_split s (base i + 19) (settings_head m) m.radio.static_address) ∙ settings_changed_lem s i r m n)

-- the code, the parameters, zeros
pub open_laid : (s : Octets) (i code : ℕ) (ps : Octets) → Ready s i → length ps ≤ 3
    → write_at (write_at (write_at s (base i + 1) (le16 code)) (base i + 3) ps) (base i + 3 + length ps) (replicate (3 - length ps) 0)
    ≡ encode (with_open (decode s) i (some (record { code = code; params = ps })))
unfolding place_of place_at sizes
open_laid s i code ps r l =
    let e : base i + 3 ≡ base i + 1 + 2 = omega arith in
    rw e (open_put s i code ps r l)

-- the used part of a part of 249 octets at most is no longer
used_fits : (s r : Octets) (at k : ℕ) → k ≤ 249 → r ≡ used_part (part s at k) → length r ≤ 249
unfolding part
used_fits s r at k l e =
    let a = length_used (take k (drop at s)) in
    let b : length (take k (drop at s)) ≤ k = simp length-take (omega arith) in
    rw e (omega arith)

-- the first 249 octets from the place of the names on are the name
pub name_used : (s r : Octets) (i which at : ℕ) → which ≡ 0 → at ≡ place_of i 4 → r ≡ used_part (part s at (at + 249 - at))
    → (r ≡ used_part (name_part which (controller_of s i).host.name)) × (length r ≤ 249)
unfolding name_part
name_used s r i which at z ea e =
    let k : at + 249 - at ≡ 249 = omega arith in
    let p : part s at 249 ≡ take 249 (controller_of s i).host.name =
    rw (ea, ← add-zero (place_of i 4), ← part_part s (place_of i 4) 260 0 249 (lit≤ tt), name_at s i) (part_first (controller_of s i).host.name 249) in
    (e ∙ rw (k, p, z), used_fits s r at (at + 249 - at) (omega arith) e)

-- the 11 octets behind them are the short name
pub short_name_used : (s r : Octets) (i which at : ℕ) → (which ≡ 0 → ⊥) → at ≡ place_of i 4 → r ≡ used_part (part s (at + 249) (at + 260 - (at + 249)))
    → (r ≡ used_part (name_part which (controller_of s i).host.name)) × (length r ≤ 249)
unfolding name_part part
short_name_used s r i which at n ea e =
    let k : at + 260 - (at + 249) ≡ 11 = omega arith in
    let p : part s (at + 249) 11 ≡ take 11 (drop 249 (controller_of s i).host.name) =
    rw (ea, ← part_part s (place_of i 4) 260 249 11 (lit≤ tt), name_at s i) in
    (e ∙ rw (k, p, ne_eqb which 0 n, name_part), used_fits s r (at + 249) (at + 260 - (at + 249)) (omega arith) e)
