-- `reading::judge_as` meets its contract: the head of the image, then what its controllers come to.
use Rattle.std.specs.Prelude.{ℕ, ◌≤◌, ◌≡◌, length, drop, get_or, Result, Ok, Err}
use Rattle.std.proofs.Common.{arith, refl, subst, sym, ◌∙◌}
use Rattle.std.proofs.Math.Option.{some}
use borrow.Author.Tests.{eqb-false, eqb-true, leb-false, leb-true}
use Rattle.model.specs.declared.Version.{Version}
use Rattle.model.specs.Octets.{Octets, number, octet}
use Rattle.model.specs.Reading.{judge_as, walk}
use Rattle.octets.specs.Parts.{part}
use Rattle.fields.specs.declared.FaultAt.{FaultAt}
use Rattle.fields.proofs.Reach.{handed_on}
use Rattle.reading.specs.Comes.{Comes, Judges}
use Rattle.reading.proofs.Judging.{all_right, found_fault, left_over_lem, many, no_count, other_length}
use Rattle.reading.proofs.judge_as.Goals as goal

-- What the walk of the controllers comes to: the answers below find by `grind`, from all that the calls ensure, that this is what is handed on.

-- it comes to a fault, which is handed on as it is
fault_of_walk : (o : Octets) (v : Version) (r : Result ℕ FaultAt) (q : Result Version FaultAt) → number 0 (part o 0 4) ≡ length o → get_or o 5 0 ≤ 4
    → Comes o (walk v (drop 5 o)) r
    → ((p : ℕ) → r ≡ Ok p → ⊥)
    → ((x : FaultAt) → r ≡ Err x → q ≡ Err x)
    → Judges o (judge_as o (some v)) q
fault_of_walk o v (Ok p) q e h g n k = absurd (n p refl)
fault_of_walk o v (Err x) q e h g n k = rw (k x refl) (found_fault o v x e h g)

-- it comes to a place
place_of_walk : (o : Octets) (v : Version) (r : Result ℕ FaultAt) (p : ℕ) → Comes o (walk v (drop 5 o)) r → r ≡ Ok p → Comes o (walk v (drop 5 o)) (Ok p)
place_of_walk o v r p g e = subst (λ (x : Result ℕ FaultAt). Comes o (walk v (drop 5 o)) x) e g

pub returns-in_err-kept : goal.returns-in_err-kept
returns-in_err-kept c =
    let a = c.args in
    let x = c.in_err-kept.ensures in
    handed_on (λ r. Judges a.image.now (judge_as a.image.now (some a.version)) r) _ _ _ c.from_residual.ensures.1 x.1
    (other_length a.image.now a.version (λ e. eqb-false _ _ x.0 (c.be32_at-told.ensures.0 ∙ e)))

pub returns-in_err-whole : goal.returns-in_err-whole
returns-in_err-whole c =
    let a = c.args in
    let x = c.in_err-whole.ensures in
    handed_on (λ r. Judges a.image.now (judge_as a.image.now (some a.version)) r) _ _ _ c.from_residual-in_err-whole.ensures.1 x.1
    (no_count a.image.now a.version (sym c.be32_at-told.ensures.0 ∙ eqb-true _ _ c.in_ok-kept.ensures) (omega (arith, x.0)))

pub returns-in_err-kept-2 : goal.returns-in_err-kept-2
returns-in_err-kept-2 c =
    let a = c.args in
    let x = c.in_err-kept-2.ensures in
    handed_on (λ r. Judges a.image.now (judge_as a.image.now (some a.version)) r) _ _ _ c.from_residual-in_err-kept-2.ensures.1 x.1
    (many a.image.now a.version (sym c.be32_at-told.ensures.0 ∙ eqb-true _ _ c.in_ok-kept.ensures) (leb-false _ _ x.0))

pub returns-in_err-p : goal.returns-in_err-p
returns-in_err-p c =
    let a = c.args in
    fault_of_walk a.image.now a.version c.controllers.result _ (sym c.be32_at-told.ensures.0 ∙ eqb-true _ _ c.in_ok-kept.ensures)
    (leb-true _ _ c.in_ok-kept-2.ensures) c.controllers.ensures (λ p e. grind (arith, e, c)) (λ x e. grind (arith, e, c))

pub returns-in_err-kept-3 : goal.returns-in_err-kept-3
returns-in_err-kept-3 c =
    let a = c.args in
    let x = c.in_err-kept-3.ensures in
    handed_on (λ r. Judges a.image.now (judge_as a.image.now (some a.version)) r) _ _ _ c.from_residual-in_err-kept-3.ensures.1 x.1
    (left_over_lem a.image.now a.version c.in_ok-p.p (sym c.be32_at-told.ensures.0 ∙ eqb-true _ _ c.in_ok-kept.ensures) (leb-true _ _ c.in_ok-kept-2.ensures)
    (place_of_walk a.image.now a.version c.controllers.result c.in_ok-p.p c.controllers.ensures (grind (arith, c))) (leb-false _ _ x.0))

pub returns : goal.returns
unfolding octet
returns c =
    let a = c.args in
    all_right a.image.now a.version c.in_ok-p.p (omega (arith, c.in_ok-whole.ensures)) c.requires.1 (sym c.be32_at-told.ensures.0 ∙ eqb-true _ _ c.in_ok-kept.ensures) (leb-true _ _ c.in_ok-kept-2.ensures)
    (place_of_walk a.image.now a.version c.controllers.result c.in_ok-p.p c.controllers.ensures (grind (arith, c))) (leb-true _ _ c.in_ok-kept-3.ensures)
