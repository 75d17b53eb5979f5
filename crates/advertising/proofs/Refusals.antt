-- The length and the checks of Add Advertising, as the code comes upon them.
use Prim.Native.Nat.{ℕ, ◌+◌, ◌≤◌, ◌<◌}
use native.Mathlib.Omega.{arith}
use mathlib.Core.Path.{◌≡◌, refl, sym, ◌∙◌}
use mathlib.Core.Bool.{Bool, true, false}
use mathlib.Core.List.{List, ◌∷◌}
use mathlib.Core.Option.{Option, none, some}
use lib.ListN.{length, get_or}
use lib.Dec.{eqb, leb}
use borrow.Author.Tests.{le-leb, lt-leb, lt-ltb, leb-true, eqb-true}
use Rattle.model.specs.declared.RadioSettings.{RadioSettings}
use Rattle.model.specs.Octets.{Octets, octet}
use Rattle.model.specs.Reasons.{Check, first_of, refused_at, status_of}
use Rattle.model.specs.declared.Reason.{Reason}
use Rattle.model.specs.Immediate.{add_advertising, advertising_checks}
use Rattle.model.proofs.Model.Tests.{and_true, no_way, not-false}
use Rattle.std.specs.Prelude.{Some, None}
use Rattle.advertising.specs.Refusals.{status_if}

-- 1. The length -------------------------------------------------------------------------------------------------------------------------------

-- fewer octets than the fixed part
pub size_short : (ps : Octets) → length ps < 11 → false ≡ add_advertising.size ps
unfolding add_advertising
size_short ps l = rw (lt-leb _ _ l)

-- else as many as the two lengths say
pub size_is : (ps : Octets) (n : ℕ) → 11 ≤ length ps → n ≡ 11 + get_or ps 9 0 + get_or ps 10 0 → eqb (length ps) n ≡ add_advertising.size ps
unfolding add_advertising octet
size_is ps n l e = rw (le-leb _ _ l, e)

-- what a right length says
pub size_true : (ps : Octets) → add_advertising.size ps ≡ true → (11 ≤ length ps) × (length ps ≡ 11 + get_or ps 9 0 + get_or ps 10 0)
unfolding add_advertising octet
size_true ps e =
    let a = and_true (leb 11 (length ps)) _ e in
    (leb-true _ _ a.0, eqb-true _ _ a.1)

-- 2. The checks -------------------------------------------------------------------------------------------------------------------------------

-- no status, no reason
pub none_refuses : (x : Option Reason) → status_if x ≡ None → x ≡ none
unfolding status_if
none_refuses none e = refl
none_refuses (some y) e = absurd (cc)

-- a status refuses: the reason is there
pub some_refuses : (x : Option Reason) (n : ℕ) → status_if x ≡ Some n → (y : Reason) × (x ≡ some y) × (status_of y ≡ n)
unfolding status_if
some_refuses none n e = absurd (cc)
some_refuses (some y) n e = (y, refl, cc)

-- no check fails: not the first, nor any behind it
first_none : (b : Bool) (x : Reason) (n : ℕ) (cs : List Check) → first_of (refused_at n b x ∷ cs) ≡ none → (b ≡ false) × (first_of cs ≡ none)
unfolding first_of
first_none true x n cs e = let z : ◌≡◌ {A = ℕ} 0 1 = cc in absurd (omega arith)
first_none false x n cs e = (refl, e)

-- what the passed checks say of the values
pub checks_passed : (r : RadioSettings) (ps : Octets) → first_of (advertising_checks r ps) ≡ none
    → (1 ≤ get_or ps 0 0) × (get_or ps 0 0 ≤ 5) × (get_or ps 9 0 ≤ 31) × (get_or ps 10 0 ≤ 31)
unfolding advertising_checks octet
checks_passed r ps e =
    let a = first_none _ _ 0 _ e in
    let b = first_none _ _ 1 _ a.1 in
    let c = first_none _ _ 9 _ b.1 in
    let d = first_none _ _ 10 _ c.1 in
    let f = and_true (leb 1 (get_or ps 0 0)) _ (not-false _ a.0) in
    let g : 31 < get_or ps 9 0 → ⊥ = λ l. no_way (sym (lt-ltb _ _ l) ∙ c.0) in
    let h : 31 < get_or ps 10 0 → ⊥ = λ l. no_way (sym (lt-ltb _ _ l) ∙ d.0) in
    (leb-true _ _ f.0, leb-true _ _ f.1, omega arith, omega arith)
