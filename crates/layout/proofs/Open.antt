-- The open command of a present index, where it lies: its code, 0 where nothing is under way, then three octets of parameters.
use mathlib.Core.Path.{◌≡◌, refl, ap, sym, ◌∙◌}
use Prim.Native.Nat.{ℕ, ◌+◌, ◌-◌, ◌≤◌}
use native.Mathlib.Omega.{arith}
use mathlib.Core.Bool.{true}
use mathlib.Core.List.{[], ◌∷◌, ◌++◌}
use mathlib.Core.Option.{Option, none, some}
use lib.ListN.{length, take, drop, replicate}
use lib.Seq.{drop-drop, get_or-drop}
use borrow.Author.Tests.{eq-eqb, ne_eqb}
use Rattle.model.specs.Lengths as Lengths
use Rattle.model.specs.Octets.{Octets, le16, u16}
use Rattle.model.specs.State.{Controller, OpenCommand}
use Rattle.model.specs.Commands.{rule}
use Rattle.model.specs.Hub.{starts, with_open}
use Rattle.model.specs.WellFormed.{open_ok}
use Rattle.model.specs.Layout.{decode, encode, open_back, open_part, open_with, size_of}
use Rattle.model.proofs.Model.Decode.{Started, started_by}
use Rattle.model.proofs.Model.Tests.{and_true}
use Rattle.octets.specs.Parts.{part, place_at, write_at}
use Rattle.octets.proofs.Parts.{get_d_part, part_part, write_split}
use Rattle.layout.specs.Places.{Ready, base, controller_of, open_at, place_of, sizes}
use Rattle.layout.proofs.Reading.{block_open, open_some, present_octet}
use Rattle.layout.proofs.Change.{open_changed}
use Rattle.layout.proofs.Kept.{open_fine}

-- 1. Read -------------------------------------------------------------------------------------------------------------------------------------

-- the code in the block and in the state
code_at : (s : Octets) (b : ℕ) → u16 (drop 1 (part s b Lengths.block)) 0 ≡ u16 s (b + 1)
unfolding u16
code_at s b =
    let e : b + 2 ≡ b + 1 + 1 = omega arith in
    rw (
      get_or-drop 1 (part s b Lengths.block) 0 0,
      get_or-drop 1 (part s b Lengths.block) 1 0,
      get_d_part s b Lengths.block 1 (omega arith),
      get_d_part s b
          Lengths.block 2 (omega arith),
      e,
    )

-- what stands there, by its code
open_by : (s : Octets) (i : ℕ) → Ready s i → open_at s i ≡ open_with (u16 s (place_of i 1)) (drop 3 (part s (base i) Lengths.block))
unfolding open_back place_of place_at sizes
open_by s i r =
    let a = present_octet s i r.here in
    block_open s i r.below ∙ open_some (part s (base i) Lengths.block) a.1 ∙ rw (code_at s (base i), drop-drop 2 1 (part s (base i) Lengths.block))

-- a code of 0
with_zero : (code : ℕ) (ps : Octets) → code ≡ 0 → open_with code ps ≡ none
unfolding open_with
with_zero code ps e = rw (eq-eqb code 0 e, open_with)

-- a code that is not 0
with_code : (code : ℕ) (ps : Octets) → (code ≡ 0 → ⊥) → open_with code ps ≡ some (record { code = code; params = take (size_of (rule code)) ps })
unfolding open_with
with_code code ps e = rw (ne_eqb code 0 e, open_with)

-- an open command, as it must be to be started
started : (c : Controller) (o : OpenCommand) → open_ok (some c) (some o) ≡ true → Started o
unfolding open_ok starts
started c o e = started_by c.radio o (rule o.code) refl (and_true (starts c.radio o) _ e).0

-- an open command of its two parts
open_of : ℕ → Octets → OpenCommand
open_of code ps = record { code = code; params = ps }

-- the parameters in the block and in the state
params_at : (s : Octets) (i n : ℕ) → n ≤ 3 → take n (drop 3 (part s (base i) Lengths.block)) ≡ part s (place_of i 1 + 2) n
unfolding part place_of place_at sizes
params_at s i n l =
    let e : base i + 1 + 2 ≡ base i + 3 = omega arith in
    rw e (part_part s (base i) Lengths.block 3 n (omega arith))

module _ (s : Octets) (i : ℕ) (r : Ready s i) where
  -- nothing is under way where the code is 0
  pub open_nothing : u16 s (place_of i 1) ≡ 0 → open_at s i ≡ none
  open_nothing e = open_by s i r ∙ with_zero (u16 s (place_of i 1)) (drop 3 (part s (base i) Lengths.block)) e

  -- what is known of a command under way
  pub open_started : (o : OpenCommand) → open_at s i ≡ some o → Started o
  open_started o e = started (controller_of s i) o (rw e at (open_fine s i r))

  -- else it is the command with that code, and its parameters follow the code
  pub open_command : (u16 s (place_of i 1) ≡ 0 → ⊥)
      → open_at s i ≡ some (record { code = u16 s (place_of i 1); params = part s (place_of i 1 + 2) (size_of (rule (u16 s (place_of i 1)))) })
  unfolding open_of
  open_command n =
      let code = u16 s (place_of i 1) in
      let o : OpenCommand = record { code = code; params = take (size_of (rule code)) (drop 3 (part s (base i) Lengths.block)) } in
      let a : open_at s i ≡ some o = open_by s i r ∙ with_code code (drop 3 (part s (base i) Lengths.block)) n in
      a ∙ ap {B = Option OpenCommand} (λ ps. some (open_of code ps)) (params_at s i (size_of (rule code)) (open_started o a).three)

-- 2. Written ----------------------------------------------------------------------------------------------------------------------------------

-- up to three parameters, with zeros behind them
padded : (ps : Octets) → length ps ≤ 3 → take 3 (ps ++ replicate 3 0) ≡ ps ++ replicate (3 - length ps) 0
padded [] l = refl
padded (a ∷ []) l = refl
padded (a ∷ b ∷ []) l = refl
padded (a ∷ b ∷ c ∷ []) l = refl
padded (a ∷ b ∷ c ∷ d ∷ ps) l = absurd (omega arith)

-- code, parameters, zeros
pub open_put : (s : Octets) (i code : ℕ) (ps : Octets) → Ready s i → length ps ≤ 3
    → write_at (write_at (write_at s (place_of i 1) (le16 code)) (place_of i 1 + 2) ps) (place_of i 1 + 2 + length ps) (replicate (3 - length ps) 0)
    ≡ encode (with_open (decode s) i (some (record { code = code; params = ps })))
unfolding open_part le16
open_put s i code ps r l =
    let p = place_of i 1 in
    let z = replicate {A = ℕ} (3 - length ps) 0 in
    sym (write_split s p (le16 code) (ps ++ z) ∙ write_split (write_at s p (le16 code)) (p + 2) ps z)
    ∙ ap (λ (x : Octets). write_at s p (le16 code ++ x)) (sym (padded ps l))
    ∙ open_changed s i r (some (record { code = code; params = ps }))

-- zeros alone
pub open_cleared : (s : Octets) (i : ℕ) → Ready s i → write_at s (place_of i 1) (replicate 5 0) ≡ encode (with_open (decode s) i none)
unfolding open_part
open_cleared s i r = open_changed s i r none
