-- The advertising stays well formed: the schedule (Proof/Schedule), and beside it the data of the instances that are there.
use Rattle.std.specs.Prelude.{ℕ, zero, suc, ◌≡◌, refl, Bool, true, false, ◌&&◌, ◌||◌, not, List, [], ◌∷◌, length, set, eqb, leb}
use Rattle.std.proofs.Common.{arith, sym, ap, ◌∙◌, eqb-true}
use Rattle.model.specs.Octets.{Octets, bytes}
use Rattle.model.specs.Advertising.{Advertising, Schedule, added_instance, advertising_removed, removed_of, data_kept, no_advertising, no_schedule}
use Rattle.model.specs.Advertising.{instances, present, rescheduled}
use Rattle.model.specs.Advertising.{with_value}
use Rattle.model.specs.WellFormed.{advertising_ok, data_fit, data_ok, schedule_ok, times_fit}
use Rattle.model.proofs.Model.Schedule.{added_durations, fit_schedule, none_ok, instance_added_ok, schedule_fit, times_many}
use Rattle.model.proofs.Model.Tests.{and_true, both, equal, no_way}

-- 1. The parts ------------------------------------------------------------------------------------------------------------------------------

-- advertising that keeps its rules, taken apart
pub record AdvertisingFit (l w : Bool) (a : Advertising) : Type 0 where
  pub schedule : schedule_ok l w a.schedule ≡ true
  pub adv_data : data_ok a.schedule.durations a.adv_data ≡ true
  pub scan_rsp : data_ok a.schedule.durations a.scan_rsp ≡ true

-- the parts of such advertising
pub advertising_fit : (l w : Bool) (a : Advertising) → advertising_ok l w a ≡ true → AdvertisingFit l w a
unfolding advertising_ok
advertising_fit l w a e =
    let b = and_true (schedule_ok l w a.schedule) _ e in
    let c = and_true (data_ok a.schedule.durations a.adv_data) _ b.1 in
    record { schedule = b.0; adv_data = c.0; scan_rsp = c.1 }

-- as many data as instances
pub data_many : (ds : List ℕ) (os : List Octets) → data_ok ds os ≡ true → length os ≡ length ds
unfolding data_ok
data_many [] [] e = refl
data_many [] (o ∷ os) e = no_way (sym e)
data_many (d ∷ ds) [] e = no_way (sym e)
data_many (d ∷ ds) (o ∷ os) e = ap suc (data_many ds os (and_true (data_fit d o) _ e).1)

-- the lists of advertising that keeps its rules have five entries each
pub record FiveEach (a : Advertising) : Type 0 where
  pub durations : length a.schedule.durations ≡ 5
  pub timeouts : length a.schedule.timeouts ≡ 5
  pub adv_data : length a.adv_data ≡ 5
  pub scan_rsp : length a.scan_rsp ≡ 5

-- so they have
pub five_each : (l w : Bool) (a : Advertising) → advertising_ok l w a ≡ true → FiveEach a
five_each l w a e =
    let h = advertising_fit l w a e in
    let s = schedule_fit l w a.schedule h.schedule in
    let n : length a.schedule.durations ≡ 5 = equal _ _ s.five in
    record { durations = n; timeouts = times_many _ _ s.times ∙ n; adv_data = data_many _ _ h.adv_data ∙ n; scan_rsp = data_many _ _ h.scan_rsp ∙ n }

-- with Low Energy on every instance may be there
pub le_on_lem : (l w : Bool) (a : Advertising) → advertising_ok l w a ≡ true → advertising_ok true w a ≡ true
unfolding advertising_ok
le_on_lem l w a e =
    let b = advertising_fit l w a e in
    let h = schedule_fit l w a.schedule b.schedule in
    both (fit_schedule true w a.schedule (record { five = h.five; times = h.times; le = refl; power = h.power; turn = h.turn }))
    (both b.adv_data b.scan_rsp)

-- 2. The data -------------------------------------------------------------------------------------------------------------------------------

-- the data of the instances that are left
data_kept_lem : (ds es : List ℕ) (os : List Octets) → data_ok ds os ≡ true → length es ≡ length ds → data_ok es (data_kept es os) ≡ true
unfolding data_ok data_fit data_kept bytes
data_kept_lem [] [] os e n = refl
data_kept_lem [] (x ∷ es) os e n = absurd (omega arith)
data_kept_lem (d ∷ ds) [] os e n = absurd (omega arith)
data_kept_lem (d ∷ ds) (x ∷ es) [] e n = no_way (sym e)
data_kept_lem (d ∷ ds) (x ∷ es) (o ∷ os) e n =
    let a = and_true (data_fit d o) _ e in
    let b = and_true (not (eqb d 0) || eqb (length o) 0) _ a.0 in
    both (kept (eqb x 0) b.1) (data_kept_lem ds es os a.1 (omega arith))
  where
    kept : (z : Bool) → leb (length o) 31 && bytes o ≡ true
        → (not z || eqb (length {A = ℕ} (elim z [ true ↦ [] | false ↦ o ])) 0) &&
        (leb (length {A = ℕ} (elim z [ true ↦ [] | false ↦ o ])) 31 && bytes (elim z [ true ↦ [] | false ↦ o ])) ≡ true
    kept true f = refl
    kept false f = f

-- other data for an instance
data_set : (k d : ℕ) (o : Octets) (ds : List ℕ) (os : List Octets) → data_ok ds os ≡ true → data_fit d o ≡ true
    → data_ok (with_value ds k d) (with_value os k o) ≡ true
unfolding data_ok with_value
data_set zero d o ds os e f = e
data_set (suc j) d o ds os e f = go j ds os e
  where
    go : (j : ℕ) (ds : List ℕ) (os : List Octets) → data_ok ds os ≡ true → data_ok (set ds j d) (set os j o) ≡ true
    go j [] [] e = refl
    go j [] (y ∷ os) e = no_way (sym e)
    go j (x ∷ ds) [] e = no_way (sym e)
    go zero (x ∷ ds) (y ∷ os) e = both f (and_true (data_fit x y) _ e).1
    go (suc j) (x ∷ ds) (y ∷ os) e = let a = and_true (data_fit x y) _ e in both a.0 (go j ds os a.1)

-- another schedule that keeps the rules, with the data of the instances that are left
pub rescheduled_ok : (l w m v : Bool) (a : Advertising) (s : Schedule) → advertising_ok l w a ≡ true → schedule_ok m v s ≡ true
    → advertising_ok m v (rescheduled a s) ≡ true
unfolding advertising_ok rescheduled
rescheduled_ok l w m v a s e f =
    let b = advertising_fit l w a e in
    let n : length s.durations ≡ length a.schedule.durations =
    equal _ _ (schedule_fit m v s f).five ∙ sym (equal _ _ (schedule_fit l w a.schedule b.schedule).five) in
    both f (both (data_kept_lem a.schedule.durations s.durations a.adv_data b.adv_data n)
    (data_kept_lem a.schedule.durations s.durations a.scan_rsp b.scan_rsp n))

-- no advertising keeps every rule
pub no_advertising_ok : (l w : Bool) → advertising_ok l w no_advertising ≡ true
unfolding advertising_ok no_advertising data_ok data_fit bytes no_schedule
no_advertising_ok l w = both (none_ok l w) refl

-- an instance added, with its data beside it
pub advertised_ok : (w : Bool) (k d t : ℕ) (o p : Octets) (a : Advertising) → advertising_ok true w a ≡ true → times_fit d t ≡ true → w || eqb t 0 ≡ true
    → data_fit d o ≡ true → data_fit d p ≡ true
    → advertising_ok true w (record {
      schedule = added_instance w k d t a.schedule;
      adv_data = with_value a.adv_data k o;
      scan_rsp = with_value a.scan_rsp
          k p;
    }) ≡ true
unfolding advertising_ok
advertised_ok w k d t o p a e f g ho hp =
    let b = advertising_fit true w a e in
    both (instance_added_ok w k d t a.schedule b.schedule f g)
    (rw (added_durations w k d t a.schedule) (both (data_set k d o _ a.adv_data b.adv_data ho) (data_set k d p _ a.scan_rsp b.scan_rsp hp)))

-- 3. What changes nothing -------------------------------------------------------------------------------------------------------------------

-- data of instances that are there are kept
data_same : (ds : List ℕ) (os : List Octets) → data_ok ds os ≡ true → data_kept ds os ≡ os
unfolding data_ok data_fit data_kept
data_same [] [] e = refl
data_same [] (o ∷ os) e = no_way (sym e)
data_same (d ∷ ds) [] e = no_way (sym e)
data_same (d ∷ ds) (o ∷ os) e =
    let a = and_true (data_fit d o) _ e in
    go (eqb d 0) (and_true (not (eqb d 0) || eqb (length o) 0) _ a.0).0 (data_same ds os a.1)
  where
    empty : (o : Octets) → eqb (length o) 0 ≡ true → ◌≡◌ {A = Octets} [] o
    empty [] f = refl
    empty (x ∷ o) f = absurd (omega (arith, eqb-true (suc (length o)) 0 f))

    go : (z : Bool) → not z || eqb (length o) 0 ≡ true → data_kept ds os ≡ os
        → ◌≡◌ {A = List Octets} (elim z [ true ↦ [] | false ↦ o ] ∷ data_kept ds os) (o ∷ os)
    go true f ih = rw (← empty o f, ih)
    go false f ih = rw ih

-- the schedule that is there anyway
pub rescheduled_same : (l w : Bool) (a : Advertising) → advertising_ok l w a ≡ true → rescheduled a a.schedule ≡ a
unfolding rescheduled
rescheduled_same l w a e =
    let b = advertising_fit l w a e in
    rw (data_same a.schedule.durations a.adv_data b.adv_data, data_same a.schedule.durations a.scan_rsp b.scan_rsp)

-- what is there is not missing
none_went : (b : Bool) → b && not b ≡ false
none_went true = refl
none_went false = refl

-- no instance went
pub none_removed : (i : ℕ) (a : Advertising) → advertising_removed i a a ≡ []
unfolding advertising_removed removed_of
none_removed i a = go a.schedule instances
  where
    go : (s : Schedule) (ks : List ℕ) → removed_of i s s ks ≡ []
    go s [] = refl
    go s (k ∷ ks) = rw (none_went (present s k), removed_of, go s ks)
