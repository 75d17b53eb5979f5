-- What is told of the instance on air: at most 65 octets, and the state is as it was.
use Rattle.std.specs.Prelude.{ℕ, zero, suc, ◌≤◌, ◌≡◌, refl, Bool, true, ◌||◌, not, List, [], ◌∷◌, length, get_or, eqb, leb}
use Rattle.std.proofs.Common.{arith, sym, length-append, lit≤, leb-true}
use Rattle.std.proofs.Math.Option.{Option, none, some}
use Rattle.model.specs.Octets.{Octets}
use Rattle.model.specs.Advertising.{Advertising, data_of, on_air_octets}
use Rattle.model.specs.State.{Controller, PlainHub, controller_at}
use Rattle.model.specs.Hub.{answer_of, octets_of, state_of}
use Rattle.model.specs.WellFormed.{advertising_ok, controller_ok, data_fit, data_ok}
use Rattle.model.specs.Layout.{decode}
use Rattle.model.specs.Meanings.{hub_on_air, on_air_out}
use Rattle.model.specs.Written.{ReadAnswer, told, wrong}
use Rattle.model.proofs.Model.Advertising.{advertising_fit}
use Rattle.model.proofs.Model.Demand3.{state_well}
use Rattle.model.proofs.Model.Keeps.{well_fit}
use Rattle.model.proofs.Model.Parts.{controller_fit}
use Rattle.model.proofs.Model.Reading.{reading_answered, reading_holds, reading_same}
use Rattle.model.proofs.Model.Stays.{controller_ok_lem}
use Rattle.model.proofs.Model.Tests.{and_true, either, no_way}

-- the data of an instance have at most 31 octets
pub data_short : (ds : List ℕ) (os : List Octets) (k : ℕ) → data_ok ds os ≡ true → length (data_of os k) ≤ 31
unfolding data_ok data_fit data_of
data_short ds os zero e = lit≤ tt
data_short ds os (suc j) e = go j ds os e
  where
    go : (j : ℕ) (ds : List ℕ) (os : List Octets) → data_ok ds os ≡ true → length (get_or os j []) ≤ 31
    go j [] [] e = lit≤ tt
    go j [] (o ∷ os) e = no_way (sym e)
    go j (d ∷ ds) [] e = no_way (sym e)
    go zero (d ∷ ds) (o ∷ os) e =
        let a = and_true (not (eqb d 0) || eqb (length o) 0) _ (and_true (data_fit d o) _ e).0 in
        leb-true (length o) 31 (and_true (leb (length o) 31) _ a.1).0
    go (suc j) (d ∷ ds) (o ∷ os) e = go j ds os (and_true (data_fit d o) _ e).1

-- the instance on air, two lengths and its data: at most 65
on_air_short : (l w : Bool) (a : Advertising) → advertising_ok l w a ≡ true → length (on_air_octets a) ≤ 65
unfolding on_air_octets
on_air_short l w a e =
    let h = advertising_fit l w a e in
    let k : ℕ = a.schedule.on_air in
    let x = data_short _ a.adv_data k h.adv_data in
    let y = data_short _ a.scan_rsp k h.scan_rsp in
    either {A = Octets} (λ o. length o ≤ 65) (eqb k 0) (λ _. lit≤ tt) (λ _. simp length-append (omega (arith, x, y)))

-- by what stands at the index
out_short : (p : PlainHub) (x : Option Controller) → ((c : Controller) → x ≡ some c → controller_ok c ≡ true) → length (octets_of (on_air_out p x)) ≤ 65
unfolding on_air_out octets_of
out_short p none f = lit≤ tt
out_short p (some c) f = on_air_short _ _ c.host.advertising (controller_fit c (f c refl)).advertising

-- AT MOST 65 OCTETS ARE TOLD, whatever the lent octets hold
pub on_air_most : (s : Octets) (i room : ℕ) → length (hub_on_air s i room).octets ≤ 65
unfolding hub_on_air
on_air_most s i room =
    reading_holds (λ o. length o ≤ 65) s room _ (lit≤ tt) (λ t. out_short (decode s).plain (controller_at (decode s).plain i)
    (λ c x. controller_ok_lem (decode s).plain i c (well_fit (decode s) (state_well s t)).plain x))

-- what is told leaves the hub as it was
out_same : (p : PlainHub) (x : Option Controller) → state_of p (on_air_out p x) ≡ p
unfolding on_air_out state_of
out_same p none = refl
out_same p (some c) = refl

-- THE STATE IS AS IT WAS
pub on_air_same : (s : Octets) (i room : ℕ) → (hub_on_air s i room).state ≡ s
unfolding hub_on_air
on_air_same s i room = reading_same s room _ (out_same (decode s).plain (controller_at (decode s).plain i))

-- what is answered, by what stands at the index
out_answers : (p : PlainHub) (x : Option Controller) → ReadAnswer (answer_of (on_air_out p x)) (octets_of (on_air_out p x))
unfolding on_air_out answer_of octets_of
out_answers p none = wrong
out_answers p (some c) = told

-- IT IS ANSWERED 0, 4, 5 OR 6, and only 0 writes
pub on_air_answered : (s : Octets) (i room : ℕ) → ReadAnswer (hub_on_air s i room).answer (hub_on_air s i room).octets
unfolding hub_on_air
on_air_answered s i room = reading_answered s room _ (out_answers (decode s).plain (controller_at (decode s).plain i))
