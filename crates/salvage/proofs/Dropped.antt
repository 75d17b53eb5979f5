-- The things that a walk drops lie one behind the other, each of at least seven octets, which the shortest record has.
use Prim.Native.Nat.{ℕ, zero, suc, ◌+◌, ◌-◌, ◌*◌, ◌≤◌}
use native.Mathlib.Omega.{arith}
use mathlib.Core.Path.{◌≡◌, ap}
use mathlib.Core.List.{List, [], ◌∷◌, ◌++◌}
use lib.ListN.{length, take, drop, length-append, length-drop}
use lib.Dec.{leb}
use Rattle.model.specs.declared.Hardware.{Hardware}
use Rattle.model.specs.declared.Version.{Version}
use Rattle.model.specs.Octets.{Octets}
use Rattle.model.specs.Tables.{TableRule, blocked_rule, device_rule, identity_key_rule, link_key_rule, long_term_key_rule, table_rules, uuid_rule}
use Rattle.model.specs.Reading.{End, Fixed, Item, Reading, Slots, Walk, also, before, controller_then, cut, fixed_part, goes_on, item_at, kept_then, nothing_dropped}
use Rattle.model.specs.Reading.{record_fault, right, short, table_then, walk, walk_controllers, walk_records, walk_table, walk_tables, wrong}
use Rattle.model.proofs.Model.Fields.{Behind, Leaves, le_of}
use Rattle.model.proofs.Model.Fixed.{fixed_leaves}
use Rattle.model.proofs.Model.Tests.{either, optional}

-- how many octets are left where a walk ends
unfoldable pub left_of : End → ℕ
left_of (goes_on o) = length o
left_of (cut i) = i.left

-- Things dropped between two places, a place being told by the octets that are left there: each has at least seven octets, and the next is behind it.
pub data Falls : ℕ → List Item → ℕ → Type 0 where
  -- nothing is dropped
  none_here : {hi lo : ℕ} → lo ≤ hi → Falls hi [] lo
  -- a thing of at least seven octets, and others behind it
  one_here : {hi lo : ℕ} {i : Item} {is : List Item} → i.left ≤ hi → 7 ≤ i.left → Falls (i.left - 7) is lo → Falls hi (i ∷ is) lo

-- the first of these as a function: what it needs is then known where it is proved
nowhere : {hi lo : ℕ} → lo ≤ hi → Falls hi [] lo
nowhere l = none_here l

-- and the second
here : {hi lo : ℕ} {i : Item} {is : List Item} → i.left ≤ hi → 7 ≤ i.left → Falls (i.left - 7) is lo → Falls hi (i ∷ is) lo
here l s f = one_here l s f

-- from further up
falls_up : {a b lo : ℕ} {is : List Item} → a ≤ b → Falls a is lo → Falls b is lo
falls_up h (none_here l) = nowhere (omega arith)
falls_up h (one_here l s f) = here (omega arith) s f

-- and then further down
falls_on : {a b c : ℕ} {is js : List Item} → Falls a is b → Falls b js c → Falls a (is ++ js) c
falls_on (none_here l) g = falls_up l g
falls_on (one_here l s f) g = one_here l s (falls_on f g)

-- between the two places there is room for all of them
pub falls_many : {a b : ℕ} {is : List Item} → Falls a is b → 7 * length is + b ≤ a
falls_many (none_here l) = omega arith
falls_many (one_here l s f) = omega (arith, falls_many f)

-- what is behind is that much shorter
behind_less : {k : ℕ} {o x : Octets} → Behind k o x → length x + k ≤ length o
behind_less {k} {o} {x} b = let n : length (b.front ++ x) ≡ length o = ap length b.parts in omega (arith, length-append b.front x, b.long)

-- of records
records_fall : (u : TableRule) (f : Hardware) (n : ℕ) (kept : List Octets) (o : Octets) → 7 ≤ u.size
    → Falls (length o) (walk_records u f n kept o).dropped (left_of (walk_records u f n kept o).end)
unfolding walk_records nothing_dropped also item_at left_of
records_fall u f zero kept o s = nowhere (omega arith)
records_fall u f (suc n) kept o s =
    either {A = Walk (List Octets)} (λ w. Falls (length o) w.dropped (left_of w.end)) (leb u.size (length o))
    (λ t. let l : u.size ≤ length o = le_of u.size (length o) t in
    let d : length (drop u.size o) ≡ length o - u.size = length-drop u.size o in
    optional {B = Walk (List Octets)} (λ w. Falls (length o) w.dropped (left_of w.end)) (record_fault u f kept (take u.size o))
    (λ _. falls_up (omega arith) (records_fall u f n (kept ++ (take u.size o ∷ [])) (drop u.size o) s))
    (λ k _. here (omega arith) (omega arith) (falls_up (omega arith) (records_fall u f n kept (drop u.size o) s))))
    (λ t. nowhere (omega arith))

-- of a table
table_fall : (u : TableRule) (f : Hardware) (e : End) → 7 ≤ u.size → Falls (left_of e) (walk_table u f e).dropped (left_of (walk_table u f e).end)
unfolding walk_table nothing_dropped item_at left_of
table_fall u f (cut i) s = nowhere (omega arith)
table_fall u f (goes_on []) s = nowhere (omega arith)
table_fall u f (goes_on (n ∷ o)) s =
    either {A = Walk (List Octets)} (λ w. Falls (suc (length o)) w.dropped (left_of w.end)) (leb n 32)
    (λ _. falls_up (omega arith) (records_fall u f n [] o s)) (λ _. nowhere (omega arith))

-- rules whose records have at least seven octets, and at most 36
unfoldable pub AllSized : List TableRule → Type 0
AllSized [] = Unit {0}
AllSized (u ∷ us) = (7 ≤ u.size) × (u.size ≤ 36) × AllSized us

-- the six rules are such
pub all_sized : AllSized table_rules
unfolding AllSized table_rules uuid_rule link_key_rule long_term_key_rule identity_key_rule blocked_rule device_rule
all_sized = (omega arith, omega arith, (omega arith, omega arith, (omega arith, omega arith, (omega arith, omega arith, (omega arith, omega arith, (omega arith, omega arith, tt))))))

-- of tables
tables_fall : (f : Hardware) (us : List TableRule) (e : End) → AllSized us → Falls (left_of e) (walk_tables f us e).dropped (left_of (walk_tables f us e).end)
unfolding walk_tables table_then before nothing_dropped AllSized
tables_fall f [] e s = nowhere (omega arith)
tables_fall f (u ∷ us) e s = falls_on (table_fall u f e s.0) (tables_fall f us (walk_table u f e).end s.2)

-- of a controller and those behind it
controller_fall : (v : Version) (low : ℕ) (found : Slots) (o : Octets) (r : Reading Fixed) (more : ℕ → Slots → End → Walk Slots) → Leaves 24 o r
    → ((low : ℕ) (found : Slots) (e : End) → Falls (left_of e) (more low found e).dropped (left_of (more low found e).end))
    → Falls (length o) (controller_then low found o r more).dropped (left_of (controller_then low found o r more).end)
unfolding controller_then kept_then also nothing_dropped item_at left_of Leaves
controller_fall v low found o (right c x) more l ih =
    let n : length x + 24 ≤ length o = behind_less l in
    falls_up (omega arith) (falls_on (tables_fall c.radio.hardware table_rules (goes_on x) all_sized) (ih _ _ _))
controller_fall v low found o (wrong y c x) more l ih =
    let n : length x + 24 ≤ length o = behind_less l in
    let t : left_of (walk_tables c.radio.hardware table_rules (goes_on x)).end ≤ length x =
    omega (arith, falls_many (tables_fall c.radio.hardware table_rules (goes_on x) all_sized)) in
    here (omega arith) (omega arith) (falls_up (omega arith) (ih low found _))
controller_fall v low found o (short y) more l ih = nowhere (omega arith)

-- of controllers
controllers_fall : (v : Version) (n low : ℕ) (found : Slots) (e : End)
    → Falls (left_of e) (walk_controllers v n low found e).dropped (left_of (walk_controllers v n low found e).end)
unfolding walk_controllers nothing_dropped left_of
controllers_fall v zero low found e = nowhere (omega arith)
controllers_fall v (suc n) low found (cut i) = nowhere (omega arith)
controllers_fall v (suc n) low found (goes_on o) =
    controller_fall v low found o (fixed_part v low o) (walk_controllers v n) (fixed_leaves v low o) (controllers_fall v n)

-- of the whole
pub walk_fall : (v : Version) (o : Octets) → Falls (length o) (walk v o).dropped (left_of (walk v o).end)
unfolding walk nothing_dropped item_at left_of
walk_fall v [] = nowhere (omega arith)
walk_fall v (n ∷ o) = falls_up (omega arith) (controllers_fall v n 0 _ (goes_on o))
