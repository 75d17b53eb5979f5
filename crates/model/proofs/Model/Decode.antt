-- Reading the lent state back: `decode` undoes `encode` on every well-formed hub. So one state has one meaning, and answer 5 has a computed test.
use Rattle.std.specs.Prelude.{ℕ, ◌+◌, ◌*◌, ◌/◌, ◌%◌, ◌^◌, ◌<◌, ◌≤◌, ◌≡◌, refl, Bool, true, false, ◌&&◌, ◌||◌, not, length, get_or, take, replicate, eqb, leb, ltb}
use native.Mathlib.Omega.{arith}
use Rattle.std.proofs.Math.Nat.{div-div-eq-div-mul}
use Rattle.std.proofs.Common.{div-add-mod', sym, ap, ◌∙◌, length-append, take-take, length-take-le, lit≤, ltb→lt, leb-true, ltb-true}
use mathlib.Core.List.{List, [], ◌∷◌, ◌++◌, map, append_assoc, append-nil}
use Rattle.std.proofs.Math.Option.{Option, none, some}
use Rattle.std.proofs.Math.ListN.{drop}
use Rattle.std.proofs.lemmas.List.{length-replicate, take-append-le}
use Rattle.std.proofs.Math.Seq.{take_at, drop_at}
use Rattle.model.specs.Lengths as Lengths
use Rattle.model.specs.Octets.{Octets, joined, le16, le32, u16, u32}
use Rattle.model.specs.Advertising.{Advertising, Schedule}
use Rattle.model.specs.State.{Controller, Hardware, Hub, OpenCommand, RadioSettings, Table, Waiting, flag, settings_of}
use Rattle.model.specs.Reasons.{passes}
use Rattle.model.specs.Tables.{TableRule, chop, entries, every, record_ok, table_rules}
use Rattle.model.specs.Rules.{RadioRule, Rule, general, immediate, radio, set_bredr, set_connectable, set_discoverable, set_low_energy, set_powered}
use Rattle.model.specs.Rules.{set_static_address}
use Rattle.model.specs.Commands.{rows, rule, words}
use Rattle.model.specs.Hub.{starts, starts_by}
use Rattle.model.specs.Stream.{waiting_at}
use Rattle.model.specs.WellFormed.{advertising_ok, data_fit, data_ok, times_fit, times_ok}
use Rattle.model.specs.WellFormed.{controller_ok, open_ok, opens_ok, plain_ok, slot_is_ok, slots_ok, table_ok, tables_ok, waiting_ok, well_formed}
use Rattle.model.specs.Layout.{block, blocks, controller_back, controller_in, controller_part, controllers_in, decode, encode, hardware_part, occupancy}
use Rattle.model.specs.Layout.{open_back, open_in, open_part, open_with, opens_in, region, regions, settings_part, size_of, slot_octets, slots}
use Rattle.model.specs.Layout.{slots_back, table_back, waiting_back, waiting_part}
use Rattle.model.specs.Layout.{advertising_back, advertising_part, data_back, data_list_back, data_part, schedule_back, schedule_part, tables_back}
use Rattle.model.proofs.Model.Advertising.{advertising_fit, five_each}
use Rattle.model.proofs.Model.Schedule.{left_wide, schedule_fit}
use Rattle.model.proofs.Model.WaitingOctets.{kept_again, kept_fits, said_most, waiting_fit}
use Rattle.model.proofs.Model.Layout.{length_block, length_data, length_data_list, length_open, length_schedule, length_slots, length_tables, waiting_tail}
use Rattle.model.proofs.Model.Region.{occupancy_lt}
use Rattle.model.proofs.Model.Parts.{controller_fit, lengths, widths_fit}
use Rattle.model.proofs.Model.Stays.{plain_fit}
use Rattle.model.proofs.Model.Tables.{table_fit}
use Rattle.model.proofs.Model.EveryRow.{Each, ◌&◌, end, found}
use Rattle.model.proofs.Model.Tests.{Five, Six, and_true, equal, five, five_of, no_way, not-true, six, six_of}

-- 1. Numbers ------------------------------------------------------------------------------------------------------------------------------------

-- two octets of a number give it back
u16_back : (n : ℕ) (x : Octets) → n < 65536 → u16 (le16 n ++ x) 0 ≡ n
unfolding u16 le16
u16_back n x h = omega arith

-- four octets of a number give it back
u32_back : (n : ℕ) (x : Octets) → n < 2 ^ 32 → u32 (le32 n ++ x) 0 ≡ n
unfolding u32 u16 le32
u32_back n x h =
    let a : n / 256 / 256 ≡ n / 65536 = div-div-eq-div-mul n 256 256 in
    let b : n / 65536 / 256 ≡ n / 16777216 = div-div-eq-div-mul n 65536 256 in
    let d1 : n / 65536 * 256 + n / 256 % 256 ≡ n / 256 = rw a at (div-add-mod' (n / 256) 256) in
    let d2 : n / 16777216 * 256 + n / 65536 % 256 ≡ n / 65536 = rw b at (div-add-mod' (n / 65536) 256) in
    let d3 : n / 16777216 % 256 ≡ n / 16777216 = omega arith in
    let d0 : n / 256 * 256 + n % 256 ≡ n = div-add-mod' n 256 in
    rw d3 (omega arith)

-- 2. Tables ---------------------------------------------------------------------------------------------------------------------------------------

-- the word and the slots' octets give the table back
pub slots_back_lem : (size : ℕ) (t : Table) → slots_back (occupancy t) (map (slot_octets size) t) ≡ t
unfolding slots_back occupancy slot_octets
slots_back_lem size [] = refl
slots_back_lem size (none ∷ t) =
    let a : occupancy t * 2 % 2 ≡ 0 = omega arith in
    let b : occupancy t * 2 / 2 ≡ occupancy t = omega arith in
    rw (a, b, slots_back_lem size t)
slots_back_lem size (some r ∷ t) =
    let a : (occupancy t * 2 + 1) % 2 ≡ 1 = omega arith in
    let b : (occupancy t * 2 + 1) / 2 ≡ occupancy t = omega arith in
    rw (a, b, slots_back_lem size t)

-- the slots' octets are cut where they were joined
chop_slots : (size : ℕ) (g : Octets → Bool) (t : Table) (x : Octets) → every (λ r. eqb (length r) size && g r) (entries t) ≡ true
    → chop size (length t) (slots size t ++ x) ≡ map (slot_octets size) t
unfolding slots slot_octets entries every chop
chop_slots size g [] x e = refl
chop_slots size g (none ∷ t) x e =
    rw (
      append_assoc,
      take_at (replicate size 0) (slots size t ++ x) size (length-replicate size 0),
      drop_at (replicate size 0) (slots size t ++ x)
          size (length-replicate size 0),
    )
    (ap {B = List Octets} (λ l. replicate size 0 ∷ l) (chop_slots size g t x e))
chop_slots size g (some r ∷ t) x e =
    let a = and_true (eqb (length r) size && g r) _ e in
    let n : length r ≡ size = equal _ _ (and_true (eqb (length r) size) _ a.0).0 in
    rw (append_assoc, take_at r (slots size t ++ x) size n, drop_at r (slots size t ++ x) size n)
    (ap {B = List Octets} (λ l. r ∷ l) (chop_slots size g t x a.1))

-- a table is read back, whatever follows it
pub table_back_lem : (u : TableRule) (f : Hardware) (t : Table) (x : Octets) → table_ok u f t ≡ true → table_back u.size (region u.size t ++ x) ≡ t
unfolding table_back region le32 record_ok
table_back_lem u f t x e =
    let h = table_fit u f t e in
    let w : occupancy t < 2 ^ 32 = rw h.slots at (occupancy_lt t) in
    let c : chop u.size 32 (slots u.size t ++ x) ≡ map (slot_octets u.size) t = rw h.slots at
    (chop_slots u.size (λ r. passes (u.checks r)) t x h.each) in
    let n : u32 (le32 (occupancy t) ++ (slots u.size t ++ x)) 0 ≡ occupancy t = u32_back (occupancy t) (slots u.size t ++ x) w in
    rw (n, c) (slots_back_lem u.size t)

-- a table takes 4 octets and 32 records
pub length_region : (u : TableRule) (f : Hardware) (t : Table) → table_ok u f t ≡ true → length (region u.size t) ≡ 4 + u.size * 32
unfolding region le32 record_ok
length_region u f t e =
    let h = table_fit u f t e in
    let n : length (slots u.size t) ≡ u.size * 32 = length_slots u.size (λ r. passes (u.checks r)) t h.each ∙ rw h.slots in
    omega arith

-- all tables are read back, whatever follows them
tables_back_lem : (f : Hardware) (us : List TableRule) (ts : List Table) (x : Octets) → tables_ok f us ts ≡ true → tables_back us (regions us ts ++ x) ≡ ts
unfolding tables_back tables_ok regions
tables_back_lem f [] [] x e = refl
tables_back_lem f [] (t ∷ ts) x e = no_way (sym e)
tables_back_lem f (u ∷ us) [] x e = no_way (sym e)
tables_back_lem f (u ∷ us) (t ∷ ts) x e =
    let a = and_true (table_ok u f t) _ e in
    let h = table_fit u f t a.0 in
    let n : length (region u.size t) ≡ 4 + u.size * 32 = length_region u f t a.0 in
    rw (
      append_assoc,
      drop_at (region u.size t) (regions us ts ++ x) (4 + u.size * 32) n,
      table_back_lem u f t (regions us ts ++ x)
          a.0,
      tables_back_lem f us ts x a.1,
    )

-- 3. Advertising -----------------------------------------------------------------------------------------------------------------------------------

-- the two octets of a number give it back, where it fits them
two_back : (d : ℕ) → ltb d 65536 ≡ true → d % 256 + 256 * (d / 256 % 256) ≡ d
two_back d e = let h : d < 65536 = ltb-true d 65536 e in omega arith

-- every one of these numbers has two octets
data Wide : List ℕ → Type 0 where
  -- none at all
  no_more : Wide []
  -- one that has, before others
  one_more : {d : ℕ} {ds : List ℕ} → ltb d 65536 ≡ true → Wide ds → Wide (d ∷ ds)

-- durations and timeouts that fit their fields
times_wide : (ds ts : List ℕ) → times_ok ds ts ≡ true → Wide ds × Wide ts
unfolding times_ok times_fit
times_wide [] [] e = (no_more, no_more)
times_wide [] (t ∷ ts) e = no_way (sym e)
times_wide (d ∷ ds) [] e = no_way (sym e)
times_wide (d ∷ ds) (t ∷ ts) e =
    let a = and_true (times_fit d t) _ e in
    let b = and_true (ltb d 65536) _ (and_true (not (eqb d 0) || eqb t 0) _ a.0).1 in
    let more = times_wide ds ts a.1 in
    (one_more b.0 more.0, one_more b.1 more.1)

-- a schedule of these parts is read back, whatever follows it
schedule_parts : (ds ts : List ℕ) (k n : ℕ) (x : Octets) → Five ds → Five ts → Wide ds → Wide ts → ltb n 65536 ≡ true
    → schedule_back (schedule_part (record { durations = ds; timeouts = ts; on_air = k; left = n }) ++ x)
    ≡ record { durations = ds; timeouts = ts; on_air = k; left = n }
unfolding schedule_back schedule_part words le16 u16
schedule_parts ds ts k n x (five a b c d e) (five f g h i j)
    (one_more wa (one_more wb (one_more wc (one_more wd (one_more we no_more)))))
    (one_more wf (one_more wg (one_more wh (one_more wi (one_more wj no_more))))) wn =
    rw (
      two_back a wa,
      two_back b wb,
      two_back c wc,
      two_back d wd,
      two_back e we,
      two_back f wf,
      two_back g wg,
      two_back h wh,
      two_back i wi,
      two_back j wj,
      two_back n wn,
    )

-- a schedule is read back, whatever follows it
schedule_back_lem : (l w : Bool) (a : Advertising) (x : Octets) → advertising_ok l w a ≡ true → schedule_back (schedule_part a.schedule ++ x) ≡ a.schedule
schedule_back_lem l w a x e =
    let s : Schedule = a.schedule in
    let h = (advertising_fit l w a e).schedule in
    let f = five_each l w a e in
    let t = times_wide s.durations s.timeouts (schedule_fit l w s h).times in
    schedule_parts s.durations s.timeouts s.on_air s.left x (five_of _ f.durations) (five_of _ f.timeouts) t.0 t.1 (left_wide l w s h)

-- data of one number are read back
pub data_back_lem : (o : Octets) → length o ≤ 31 → data_back (data_part o) ≡ o
unfolding data_back data_part
data_back_lem o n = take-take (length o) 31 (o ++ replicate 31 0) n ∙ take_at o (replicate 31 0) (length o) refl

-- the data of all numbers are read back, whatever follows them
data_list_back_lem : (ds : List ℕ) (os : List Octets) (x : Octets) → data_ok ds os ≡ true → map data_back (chop 32 (length os) (joined (map data_part os) ++ x)) ≡ os
unfolding data_ok data_fit joined chop
data_list_back_lem [] [] x e = refl
data_list_back_lem [] (o ∷ os) x e = no_way (sym e)
data_list_back_lem (d ∷ ds) [] x e = no_way (sym e)
data_list_back_lem (d ∷ ds) (o ∷ os) x e =
    let a = and_true (data_fit d o) _ e in
    let n : length o ≤ 31 = leb-true (length o) 31 (and_true (leb (length o) 31) _ (and_true (not (eqb d 0) || eqb (length o) 0) _ a.0).1).0 in
    let y : Octets = joined (map data_part os) ++ x in
    rw (append_assoc, take_at (data_part o) y 32 (length_data o), drop_at (data_part o) y 32 (length_data o), data_back_lem o n, data_list_back_lem ds os x a.1)

-- advertising is read back, whatever follows it
advertising_back_lem : (l w : Bool) (a : Advertising) (x : Octets) → advertising_ok l w a ≡ true → advertising_back (advertising_part a ++ x) ≡ a
unfolding advertising_back advertising_part data_list_back
advertising_back_lem l w a x e =
    let f = five_each l w a e in
    let h = advertising_fit l w a e in
    let o : Octets = schedule_part a.schedule in
    let p : Octets = joined (map data_part a.adv_data) in
    let q : Octets = joined (map data_part a.scan_rsp) in
    let no : length o ≡ 23 = length_schedule a.schedule f.durations f.timeouts in
    let np : length (o ++ p) ≡ 183 = length-append o p ∙ omega (arith, length_data_list a.adv_data, f.adv_data) in
    let ea : map data_back (chop 32 5 (p ++ (q ++ x)))
    ≡ a.adv_data = rw f.adv_data at (data_list_back_lem a.schedule.durations a.adv_data (q ++ x) h.adv_data) in
    let es : map data_back (chop 32 5 (q ++ x)) ≡ a.scan_rsp = rw f.scan_rsp at (data_list_back_lem a.schedule.durations a.scan_rsp x h.scan_rsp) in
    let whole : (o ++ (p ++ q)) ++ x ≡ o ++ (p ++ (q ++ x)) = simp append_assoc in
    let second : drop 183 (o ++ (p ++ (q ++ x))) ≡ q ++ x = rw (← append_assoc o p (q ++ x)) (drop_at (o ++ p) (q ++ x) 183 np) in
    rw (whole, drop_at o (p ++ (q ++ x)) 23 no, second, ea, es, schedule_back_lem l w a (p ++ (q ++ x)) e)

-- 4. A controller -----------------------------------------------------------------------------------------------------------------------------------

-- a flag's octet gives it back
flag_back : (b : Bool) → eqb (flag b 1) 1 ≡ b
unfolding flag
flag_back true = refl
flag_back false = refl

module _ (v m s t : ℕ) (pw k br l d b : Bool) (name : Octets) (ts : List Table) (ad : Advertising) (x : Octets) where
  -- the controller of these parts
  controller_by : Octets → Octets → Controller
  controller_by pa st = record {
    radio =
        record {
          hardware = record { public_address = pa; version = v; manufacturer = m; supported = s };
          powered = pw;
          connectable = k;
          bredr = br;
          low_energy = l;
          static_address = st;
        };
    host = record { settings = record { timer = record { discoverable = d; seconds = t }; bondable = b }; name = name; tables = ts; advertising = ad };
  }

  -- the octets of these parts, and what follows
  part_by : Octets → Octets → Octets
  part_by pa st =
      hardware_part (controller_by pa st).radio.hardware
      ++ (settings_part (settings_of (controller_by pa st)) ++ (name ++ (regions table_rules ts ++ (advertising_part ad ++ x))))

  -- a controller by its parts is read back
  by_parts : (pa st : Octets) → Six pa → Six st → m < 65536 → s < 2 ^ 32 → t < 65536 → length name ≡ 260
      → tables_ok (controller_by pa st).radio.hardware table_rules ts ≡ true → advertising_ok l pw ad ≡ true
      → controller_back (part_by pa st) ≡ controller_by pa st
  unfolding controller_by part_by controller_back hardware_part settings_part settings_of le16 le32 u16 u32
  by_parts pa st (six a1 a2 a3 a4 a5 a6) (six b1 b2 b3 b4 b5 b6) hm hs ht hn to ao =
      let z : Octets = advertising_part ad ++ x in
      let r : Octets = regions table_rules ts in
      let y : Octets = r ++ z in
      let far : drop 3996 (name ++ y) ≡ z = rw (← append_assoc name r z)
      (drop_at (name ++ r) z 3996 (length-append name r ∙ omega (arith, length_tables _ ts to))) in
      let em : m % 256 + 256 * (m / 256 % 256) ≡ m = omega arith in
      let et : t % 256 + 256 * (t / 256 % 256) ≡ t = omega arith in
      let es : s % 256 + 256 * (s / 256 % 256) + 65536 * (s / 65536 % 256 + 256 * (s / 16777216 % 256)) ≡ s = u32_back s [] hs in
      rw (
        em,
        es,
        et,
        flag_back pw,
        flag_back k,
        flag_back d,
        flag_back b,
        flag_back br,
        flag_back l,
        take_at name y 260 hn,
        drop_at name y 260 hn,
        tables_back_lem (controller_by (a1 ∷ a2 ∷ a3 ∷ a4 ∷ a5 ∷ a6 ∷ []) (b1 ∷ b2 ∷ b3 ∷ b4 ∷ b5 ∷ b6 ∷ [])).radio.hardware table_rules ts z to,
        far,
        advertising_back_lem l pw ad x ao,
      )

-- the octets of a controller are those of its parts
part_is : (c : Controller) (x : Octets)
    → controller_part c ++ x ≡ part_by c.radio.hardware.version c.radio.hardware.manufacturer c.radio.hardware.supported
    c.host.settings.timer.seconds
    c.radio.powered c.radio.connectable c.radio.bredr c.radio.low_energy c.host.settings.timer.discoverable c.host.settings.bondable
    c.host.name c.host.tables c.host.advertising x c.radio.hardware.public_address c.radio.static_address
unfolding controller_part part_by controller_by
part_is c x = simp append_assoc

-- a controller is read back, whatever follows it
controller_back_lem : (c : Controller) (x : Octets) → controller_ok c ≡ true → controller_back (controller_part c ++ x) ≡ c
unfolding controller_by
controller_back_lem c x e =
    let h = controller_fit c e in
    let w = widths_fit c e in
    let n = lengths c e in
    rw (part_is c x)
    (by_parts c.radio.hardware.version c.radio.hardware.manufacturer c.radio.hardware.supported c.host.settings.timer.seconds
    c.radio.powered c.radio.connectable c.radio.bredr c.radio.low_energy c.host.settings.timer.discoverable c.host.settings.bondable
    c.host.name c.host.tables c.host.advertising x c.radio.hardware.public_address c.radio.static_address (six_of _ n.public_address)
    (six_of _ n.static_address)
    (ltb→lt _ _ (rw w.manufacturer tt)) (omega (arith, n.supported)) (ltb→lt _ _ (rw w.seconds tt)) n.name h.tables
    h.advertising)

-- 5. The open command -----------------------------------------------------------------------------------------------------------------------------------

-- what a row must be: its code no zero, and in two octets; a command that waits has at most three parameter octets
Small : Rule → Type 0
Small (general f) = Unit {0}
Small (immediate q) = Unit {0}
Small (radio r) = (x : RadioSettings) (ps : Octets) → r.waits x ps ≡ true → r.size ≤ 3

-- a row with such a code and such a rule
record SmallRow (code : ℕ) (u : Rule) : Type 0 where
  some : eqb code 0 ≡ false
  two : code < 65536
  rule : Small u

-- a row by its code and its rule
row : {code : ℕ} {u : Rule} → not (eqb code 0) && ltb code 65536 ≡ true → Small u → SmallRow code u
row {code} {u} e h = let a = and_true (not (eqb code 0)) _ e in record { some = not-true _ a.0; two = ltb→lt _ _ (rw a.1 tt); rule = h }

-- a rule with at most three parameter octets, whether it waits or not
at_most_three : (r : RadioRule) → r.size ≤ 3 → Small (radio r)
unfolding Small
at_most_three r h x ps e = h

-- Set Static Address has six, and never waits
static_never_waits : Small (radio set_static_address)
unfolding Small set_static_address
static_never_waits x ps e = no_way (sym e)

-- every row is such a one
all_small : Each SmallRow rows
unfolding rows Small set_powered set_discoverable set_connectable set_low_energy set_bredr
all_small =
    row refl tt
    & row refl tt
    & row refl tt
    & row refl tt
    & row refl (at_most_three set_powered (lit≤ tt))
    & row refl (at_most_three set_discoverable (lit≤ tt))
    & row refl (at_most_three set_connectable (lit≤ tt))
    & row refl tt
    & row refl (at_most_three set_low_energy (lit≤ tt))
    & row refl tt
    & row refl tt
    & row refl tt
    & row refl tt
    & row refl tt
    & row refl tt
    & row refl tt
    & row refl tt
    & row refl (at_most_three set_bredr (lit≤ tt))
    & row refl static_never_waits
    & row refl tt
    & row refl tt
    & row refl tt
    & row refl tt
    & row refl tt
    & end

-- the parameters come back from their three octets
params_back : (n : ℕ) (ps y : Octets) → length ps ≡ n → n ≤ 3 → take n (take 3 (ps ++ replicate 3 0) ++ y) ≡ ps
params_back n ps y e le =
    let z : Octets = ps ++ replicate 3 0 in
    let l : length z ≡ length ps + 3 = length-append ps (replicate 3 0) in
    let m : length (take 3 z) ≡ 3 = length-take-le 3 z (omega arith) in
    take-append-le n (take 3 z) y (omega arith) ∙ take-take n 3 z le ∙ take_at ps (replicate 3 0) n e

-- what is known of a command that would be started: its code, and as many parameters as its rule says, at most three
pub record Started (o : OpenCommand) : Type 0 where
  pub some : eqb o.code 0 ≡ false
  pub two : o.code < 65536
  pub size : length o.params ≡ size_of (rule o.code)
  pub three : size_of (rule o.code) ≤ 3

-- a command that would be started is such a one
pub started_by : (x : RadioSettings) (o : OpenCommand) (u : Option Rule) → rule o.code ≡ u → starts_by x o.params u ≡ true → Started o
unfolding starts_by size_of rule Small
started_by x o none e s = no_way (sym s)
started_by x o (some (general f)) e s = no_way (sym s)
started_by x o (some (immediate q)) e s = no_way (sym s)
started_by x o (some (radio r)) e s =
    let a = and_true (eqb (length o.params) r.size) _ s in
    let b = and_true (passes (r.before_busy x o.params)) _ a.1 in
    let d = and_true (passes (r.after_busy x o.params)) _ b.1 in
    let g = found SmallRow o.code rows (radio r) all_small e in
    record { some = g.some; two = g.two; size = rw e (equal _ _ a.0); three = rw e (g.rule x o.params d.1) }

-- an open command from its code and its parameters
open_with_lem : (o : OpenCommand) (ps : Octets) → eqb o.code 0 ≡ false → take (size_of (rule o.code)) ps ≡ o.params → open_with o.code ps ≡ some o
unfolding open_with
open_with_lem o ps e p = rw (e, open_with, p)

-- an open command is read back
open_back_lem : (x : RadioSettings) (o : OpenCommand) (y : Octets) → starts x o ≡ true → open_back (open_part (some o) ++ y) ≡ some o
unfolding starts open_part open_back le16
open_back_lem x o y s =
    let g = started_by x o (rule o.code) refl s in
    let n : u16 (le16 o.code ++ (take 3 (o.params ++ replicate 3 0) ++ y)) 0 ≡ o.code = u16_back o.code _ g.two in
    rw n (open_with_lem o (take 3 (o.params ++ replicate 3 0) ++ y) g.some (params_back (size_of (rule o.code)) o.params y g.size g.three))

-- no open command is read back as none
none_back : (y : Octets) → open_back (open_part none ++ y) ≡ none
unfolding open_back open_with open_part u16
none_back y = refl

-- 6. Blocks and the hub ------------------------------------------------------------------------------------------------------------------------------------

-- the controller of a block is read back
controller_in_lem : (s : Option Controller) (o : Option OpenCommand) → slot_is_ok s ≡ true → controller_in (block s o) ≡ s
unfolding controller_in block slot_is_ok
controller_in_lem none o e = refl
controller_in_lem (some c) o e =
    let d : drop 5 (open_part o ++ controller_part c) ≡ controller_part c = drop_at (open_part o) (controller_part c) 5 (length_open o) in
    let b : controller_back (controller_part c) ≡ c = rw append-nil at (controller_back_lem c [] e) in
    ap {B = Option Controller} some (ap controller_back d ∙ b)

-- the open command of a block is read back
open_in_lem : (s : Option Controller) (o : Option OpenCommand) → open_ok s o ≡ true → open_in (block s o) ≡ o
unfolding open_in block open_ok
open_in_lem none none e = refl
open_in_lem none (some o) e = no_way (sym e)
open_in_lem (some c) none e = none_back (controller_part c)
open_in_lem (some c) (some o) e = open_back_lem c.radio o (controller_part c) (and_true (starts c.radio o) _ e).0

-- the controllers of all blocks are read back, whatever follows them
controllers_back : (ss : List (Option Controller)) (os : List (Option OpenCommand)) (z : Octets) → slots_ok ss ≡ true
    → controllers_in (length ss) (blocks ss os ++ z) ≡ ss
unfolding controllers_in blocks slots_ok
controllers_back [] os z e = refl
controllers_back (s ∷ ss) os z e =
    let a = and_true (slot_is_ok s) _ e in
    let n = length_block s (get_or os 0 none) a.0 in
    let x = block s (get_or os 0 none) in
    let y = blocks ss (drop 1 os) ++ z in
    rw (append_assoc, take_at x y Lengths.block n, drop_at x y Lengths.block n, controller_in_lem s (get_or os 0 none) a.0, controllers_back ss (drop 1 os) z a.1)

-- the open commands of all blocks are read back, whatever follows them
opens_back : (ss : List (Option Controller)) (os : List (Option OpenCommand)) (z : Octets) → slots_ok ss ≡ true → opens_ok ss os ≡ true
    → opens_in (length ss) (blocks ss os ++ z) ≡ os
unfolding opens_in blocks slots_ok opens_ok
opens_back [] [] z e k = refl
opens_back [] (o ∷ os) z e k = no_way (sym k)
opens_back (s ∷ ss) [] z e k = no_way (sym k)
opens_back (s ∷ ss) (o ∷ os) z e k =
    let a = and_true (slot_is_ok s) _ e in
    let b = and_true (open_ok s o) _ k in
    let n = length_block s o a.0 in
    let x = block s o in
    let y = blocks ss os ++ z in
    rw (append_assoc, take_at x y Lengths.block n, drop_at x y Lengths.block n, open_in_lem s o b.0, opens_back ss os z a.1 b.1)

-- the number taken is read back
taken_back : (t : ℕ) (o : Octets) → t < 2 ^ 32 → waiting_back (le32 t ++ o) ≡ waiting_at t o
unfolding waiting_back le32
taken_back t o h = ap (λ (n : ℕ). waiting_at n o) (u32_back t o h)

-- waiting octets are read back
waiting_back_lem : (w : Waiting) → waiting_ok w ≡ true → waiting_back (waiting_part w) ≡ w
unfolding waiting_part
waiting_back_lem w e =
    let f = waiting_fit w e in
    taken_back w.taken _ (omega (arith, f.short, said_most w.kept f.octets))
    ∙ kept_again w Lengths.longest_kept Lengths.longest_kept f (lit≤ tt) (kept_fits w f).1

-- so they are from the end of the state
tail_back : (h : Hub) → plain_ok h.plain ≡ true → waiting_ok h.waiting ≡ true → waiting_back (drop Lengths.blocks_end (encode h)) ≡ h.waiting
tail_back h e w = ap waiting_back (waiting_tail h e) ∙ waiting_back_lem h.waiting w

-- ONE STATE, ONE MEANING
pub decode_encode : (h : Hub) → well_formed h ≡ true → decode (encode h) ≡ h
unfolding decode encode well_formed le32
decode_encode h e =
    let a = and_true (plain_ok h.plain) _ e in
    let b = and_true (opens_ok h.plain.controllers h.open_commands) _ a.1 in
    let f = plain_fit h.plain a.0 in
    let n : length h.plain.controllers ≡ 4 = equal _ _ f.four in
    let z : Octets = waiting_part h.waiting in
    let x : Octets = blocks h.plain.controllers h.open_commands ++ z in
    let c : u32 (le32 h.plain.clock ++ x) 0 ≡ h.plain.clock = u32_back h.plain.clock x (ltb→lt _ _ (rw f.clock tt)) in
    let s : controllers_in 4 x ≡ h.plain.controllers = rw n at (controllers_back h.plain.controllers h.open_commands z f.slots) in
    let o : opens_in 4 x ≡ h.open_commands = rw n at (opens_back h.plain.controllers h.open_commands z f.slots b.0) in
    rw (c, s, o, tail_back h a.0 b.1)
