-- Tests that the code makes in other words than the rules: addresses and tables.
use Prim.Native.Nat.{ℕ, ◌+◌, ◌*◌, ◌≤◌, ◌<◌}
use mathlib.Core.Path.{◌≡◌, refl, sym, ◌∙◌}
use mathlib.Core.Bool.{Bool, true, false, ◌&&◌, not}
use lib.ListN.{length}
use lib.Dec.{eqb, ltb, lit≤}
use Rattle.model.specs.declared.RadioSettings.{RadioSettings}
use Rattle.model.specs.Octets.{Octets, all_zero}
use Rattle.model.specs.State.{Table, table_of}
use Rattle.model.specs.Tables.{free, full, holds, rule_at, table_rules, uuid_rule}
use Rattle.model.specs.WellFormed.{addressed}
use Rattle.std.proofs.Common.{Option}
use Rattle.std.specs.Option.{is_some}
use Rattle.table.specs.Slots.{IsSlot, first_at, table_at}
use Rattle.table.proofs.Laws.{told_none, told_some}
use Rattle.table.proofs.Slots.{full_free, holds_first}
use Rattle.layout.specs.Places.{Ready, controller_of, table_place}
use Rattle.layout.proofs.Tables.{table_at_lem, table_fits, table_long}

-- no address is there
pub unaddressed : (r : RadioSettings) → (all_zero r.hardware.public_address && all_zero r.static_address) ≡ not (addressed r)
unfolding addressed
unaddressed r = sym (twice (all_zero r.hardware.public_address && all_zero r.static_address))
  where
    twice : (a : Bool) → not (not a) ≡ a
    twice true = refl
    twice false = refl

-- a UUID is the first 16 octets of its record
pub uuid_size : 16 ≤ (rule_at 0).size
unfolding rule_at table_rules uuid_rule
uuid_size = lit≤ tt

module _ (s : Octets) (i k place : ℕ) (g : Ready s i) (l : k < 6) (ep : place ≡ table_place i k) where
  -- the controller's table
  abbrev table : Table
  table = table_of (controller_of s i).host k

  module _ (size : ℕ) (ez : size ≡ (rule_at k).size) where
    -- it lies inside the state
    pub inside : place + (4 + size * 32) ≤ length s
    inside = rw (ep, ez, g.long) (table_fits i k g.below l)

    -- at its place
    here : table_at s place size ≡ table
    here = rw (ep, ez) (table_at_lem s i g k l)

    -- a record is found if the first that matches is one of the 32 slots
    pub held : (m : Octets → Bool) (r : Option ℕ) → IsSlot r (first_at m (table_at s place size)) → is_some r ≡ holds m table
    held m r e = told_some r _ e ∙ sym (holds_first m table ∙ rw (table_long s i g k l, here))

  -- no slot is free if the lowest free one is none of the 32
  pub filled : (r : Option ℕ) (b : Bool) → is_some r ≡ not b → ((size : ℕ) → IsSlot r (free (table_at s place size))) → b ≡ full table
  filled r b t e = told_none r _ b t (e (rule_at k).size) ∙ sym (full_free table ∙ rw (table_long s i g k l, here (rule_at k).size refl))
