-- Unpair: from what its steps leave to what the model says, over plain values.
use Prim.Native.Nat.{ℕ, ◌≤◌, ◌<◌}
use native.Mathlib.Omega.{arith}
use mathlib.Core.Path.{◌≡◌, refl, sym, ◌∙◌}
use mathlib.Core.Bool.{Bool, true, false, not}
use mathlib.Core.List.{[], ◌∷◌, ◌++◌}
use lib.ListN.{length, get_or, take, set, length-append}
use lib.Seq.{get_or-set_other, set-set, length-take-le}
use lib.Dec.{ltb}
use borrow.Author.Tests.{eq-eqb, ne_eqb, lt-ltb, le-ltb}
use Rattle.model.specs.Statuses as Statuses
use Rattle.model.specs.Codes as Codes
use Rattle.model.specs.Events as Events
use Rattle.model.specs.Lengths as Lengths
use Rattle.model.specs.declared.Settings.{Settings}
use Rattle.model.specs.Octets.{Octets, octet, event, command_complete, command_status}
use Rattle.model.specs.State.{Controller, Host, Hub, Table, settings_of, table_of, with_controller, with_host, with_table}
use Rattle.model.specs.Reasons.{refused_at, refused_if, first_of, status_of}
use Rattle.model.specs.declared.Reason.{Reason}
use Rattle.model.specs.declared.Reason.TheVariants.{AddressTypeAbove2, DisconnectAbove1, Unpowered, NoKeyOfDevice}
use Rattle.model.specs.Tables.{begins, freed, holds}
use Rattle.model.specs.Rules.{refuse, done, act, unless}
use Rattle.model.specs.Immediate.{sized, any_key, unpaired, unpair_device}
use Rattle.model.specs.WellFormed.{controller_ok}
use Rattle.model.specs.Layout.{decode, encode, region}
use Rattle.model.proofs.Model.Parts.{table_changed}
use Rattle.model.specs.Tables.{rule_at}
use Rattle.model.proofs.Model.Tables.{freed_ok, length_freed}
use Rattle.octets.specs.Parts.{write_at}
use Rattle.std.proofs.Common.{Option}
use Rattle.std.specs.Option.{is_some}
use Rattle.table.specs.Slots.{Canonical, IsSlot, first_at, table_at}
use Rattle.table.proofs.Laws.{told_some}
use Rattle.table.proofs.Slots.{holds_first, sized_freed}
use Rattle.layout.specs.Places.{Ready, controller_of, put_controller, table_place}
use Rattle.layout.proofs.Change.{controller_fine}
use Rattle.layout.proofs.Tables.{table_at_lem, table_fine, table_long, table_sized, region_at, table_stored}
use Rattle.layout.proofs.Kept.{host_fine, controller_ready, controller_back_lem, controller_decoded}
use Rattle.records.proofs.Laws.{size_least}
use Rattle.replies.specs.Answers.{Gives}
use Rattle.model.specs.declared.Answer.{Answer}
use Rattle.model.specs.declared.Answer.TheVariants.{Done, Refused}
use Rattle.replies.proofs.Laws.{then, length_event}
use Rattle.outcomes.specs.Outcomes.{immediate_command}
use Rattle.outcomes.proofs.Endings.{immediate_length, immediate_address, immediate_done_lem}
use Rattle.keys.specs.Forget.{forgotten, Forgets}
use Rattle.model.proofs.Model.Room.{length_complete}

-- 1. One table ----------------------------------------------------------------------------------------------------------------------------------------

module _ (s : Octets) (i k : ℕ) (ps : Octets) (place size : ℕ) (g : Ready s i) (l : k < 6) (ep : place ≡ table_place i k) (ez : size ≡ (rule_at k).size) where
  -- table k of the controller
  abbrev table : Table
  table = table_of (controller_of s i).host k

  -- it lies at the place
  table_here : table_at s place size ≡ table
  table_here = rw (ep, ez) (table_at_lem s i g k l)

  -- the octets there are the one encoding of the table
  pub table_canonical : Canonical s place size
  table_canonical = rw table_here (rw (ep, ez) (region_at s i g k l))

  -- whether a key is found
  pub key_found : (r : Option ℕ) → IsSlot r (first_at (begins 7 ps) (table_at s place size)) → is_some r ≡ holds (begins 7 ps) table
  key_found r e = told_some r _ e ∙ sym (holds_first (begins 7 ps) table ∙ rw (table_long s i g k l, table_here))

  -- the keys released
  pub keys_gone : (t : Octets) → t ≡ write_at s place (region size (freed (begins 7 ps) (table_at s place size))) → Forgets s i k ps t
  unfolding forgotten
  keys_gone t e =
      let c = controller_of s i in
      let x = freed (begins 7 ps) table in
      let n : length x ≡ 32 = length_freed (begins 7 ps) table ∙ table_long s i g k l in
      let z = sized_freed (rule_at k).size (begins 7 ps) table (table_sized s i g k l) in
      let w : t ≡ encode (put_controller (decode s) i (with_host c (with_table c.host k x))) = e ∙ rw (table_here, ep, ez) (table_stored s i g k l x n z) in
      let fine : controller_ok (with_host c (with_table c.host k x)) ≡ true =
      table_changed c k x (controller_fine s i g) (freed_ok (rule_at k) c.radio.hardware (begins 7 ps) table (table_fine s i g k l)) in
      let d = with_host c (with_table c.host k x) in
      let o = host_fine s i g (with_table c.host k x) in
      record {
        ready = rw w (controller_ready s i g d fine o);
        left = rw w (controller_back_lem s i g d fine o);
        hub = rw w
            (controller_decoded s i g d fine o);
        state = w;
      }

-- a record holds an address and type
pub seven_fit : (k size : ℕ) → k < 6 → size ≡ (rule_at k).size → 7 ≤ size
seven_fit k size l e = rw e (size_least k l)

-- 2. All three tables -----------------------------------------------------------------------------------------------------------------------------------

-- a key in the first, the second or the third of the tables
pub any_first : (m : Octets → Bool) (h : Host) (a : Bool) → a ≡ holds m (table_of h 1) → a ≡ true → true ≡ any_key m h
unfolding any_key
any_first m h a e t = sym (rw (sym e ∙ t))

-- the same, of the second where the first has none
pub any_second : (m : Octets → Bool) (h : Host) (a b : Bool) → a ≡ holds m (table_of h 1) → a ≡ false → b ≡ holds m (table_of h 2) → b ≡ true
    → true ≡ any_key m h
unfolding any_key
any_second m h a b e f g t = sym (rw (sym e ∙ f, sym g ∙ t))

-- where the first two have none, the third tells
pub any_third : (m : Octets → Bool) (h : Host) (a b c : Bool) → a ≡ holds m (table_of h 1) → a ≡ false → b ≡ holds m (table_of h 2) → b ≡ false
    → c ≡ holds m (table_of h 3) → c ≡ any_key m h
unfolding any_key
any_third m h a b c e f g t k = k ∙ sym (rw (sym e ∙ f, sym g ∙ t))

-- a controller put twice
put_twice : (h : Hub) (i : ℕ) (c d : Controller) → put_controller (put_controller h i c) i d ≡ put_controller h i d
unfolding put_controller with_controller
put_twice h i c d = rw set-set

-- table by table is all at once
forgotten_three : (ps : Octets) (c : Controller) → forgotten 3 ps (forgotten 2 ps (forgotten 1 ps c)) ≡ with_host c (unpaired (begins 7 ps) c.host)
unfolding forgotten unpaired with_host with_table table_of
forgotten_three ps c =
    let ts = c.host.tables in
    let m = begins 7 ps in
    let a : get_or (set ts 1 (freed m (get_or ts 1 []))) 2 [] ≡ get_or ts 2 [] = get_or-set_other ts 1 2 (freed m (get_or ts 1 [])) [] (λ e. omega arith) in
    let b : get_or (set ts 1 (freed m (get_or ts 1 []))) 3 [] ≡ get_or ts 3 [] = get_or-set_other ts 1 3 (freed m (get_or ts 1 [])) [] (λ e. omega arith) in
    let d : get_or (set (set ts 1 (freed m (get_or ts 1 []))) 2 (freed m (get_or ts 2 []))) 3 [] ≡ get_or (set ts 1 (freed m (get_or ts 1 []))) 3 [] =
    get_or-set_other (set ts 1 (freed m (get_or ts 1 []))) 2 3 (freed m (get_or ts 2 [])) [] (λ e. omega arith) in
    rw (a, d, b)

-- the three releases, one after the other
pub three_gone : (s : Octets) (i : ℕ) (ps a b t : Octets) → Forgets s i 1 ps a → Forgets a i 2 ps b → Forgets b i 3 ps t
    → t ≡ encode (put_controller (decode s) i (with_host (controller_of s i) (unpaired (begins 7 ps) (controller_of s i).host)))
three_gone s i ps a b t x y z =
    let c = controller_of s i in
    let e : controller_of b i ≡ forgotten 2 ps (forgotten 1 ps c) = y.left ∙ rw x.left in
    let h : decode b ≡ put_controller (decode s) i (forgotten 2 ps (forgotten 1 ps c)) = y.hub ∙ rw (x.hub, x.left, put_twice) in
    z.state ∙ rw (e, h, put_twice, forgotten_three ps c)

-- 3. The reply ------------------------------------------------------------------------------------------------------------------------------------------

-- Command Complete, then Device Unpaired
pub unpaired_reply : (d : Octets) (i : ℕ) (ps b e : Octets) → 7 ≤ length ps → b ≡ write_at d 0 (command_complete i Codes.unpair_device 0 (take 7 ps))
    → e ≡ write_at b 16 (event Events.device_unpaired i (take 7 ps))
    → e ≡ write_at d 0 (command_complete i Codes.unpair_device 0 (take 7 ps) ++ event Events.device_unpaired i (take 7 ps))
unpaired_reply d i ps b e l eb ee =
    let n : length (command_complete i Codes.unpair_device 0 (take 7 ps)) ≡ 16 = length_complete i Codes.unpair_device 0 (take 7 ps)
    ∙ rw (length-take-le 7 ps l) in
    ee ∙ rw eb (then d 0 (command_complete i Codes.unpair_device 0 (take 7 ps)) (event Events.device_unpaired i (take 7 ps)) 16 (rw n))

-- 4. The ways out of `unpair_device` --------------------------------------------------------------------------------------------------------------------

-- the model's rule, by its four tests
unpair_act : (i : ℕ) (c : Controller) (ps : Octets) (a b p k : Bool) → ltb 2 (octet ps 6) ≡ a → ltb 1 (octet ps 7) ≡ b → c.radio.powered ≡ p
    → any_key (begins 7 ps) c.host ≡ k
    → act unpair_device i c ps
    ≡ unless (first_of ((refused_at 6 a AddressTypeAbove2) ∷ (refused_at 7 b DisconnectAbove1) ∷ (refused_if (not p) Unpowered) ∷
    (refused_if (not k) NoKeyOfDevice) ∷ []))
    (done (take 7 ps) (event Events.device_unpaired i (take 7 ps)) (unpaired (begins 7 ps) c.host))
unfolding unpair_device
unpair_act i c ps a b p k ea eb ep ek = rw (← ea, ← eb, ← ep, ← ek)

module _ (s : Octets) (i : ℕ) (ps d d' : Octets) (r : Answer) (g : Ready s i) (big : Lengths.reply_buffer ≤ length d) where
  -- parameters that are not eight octets long: Invalid Parameters
  pub unpair_length : (length ps ≡ 8 → ⊥) → r ≡ Refused 9 → d' ≡ write_at d 0 (command_status i Codes.unpair_device Statuses.invalid_parameters)
      → Gives (immediate_command s i Codes.unpair_device ps unpair_device) r d d' s
  unfolding unpair_device sized
  unpair_length n m w = immediate_length s i Codes.unpair_device ps unpair_device d d' r g big (ne_eqb (length ps) 8 n) m w

  module _ (eight : length ps ≡ 8) where
    -- eight octets are the length that the model asks for
    sized_eight : unpair_device.size ps ≡ true
    unfolding unpair_device sized
    sized_eight = eq-eqb (length ps) 8 eight

    -- where the model refuses, the answer is Command Complete with the status, the address and its type, and the state stays
    refuses : (x : Reason) → act unpair_device i (controller_of s i) ps ≡ refuse x → r ≡ Refused 16
        → d' ≡ write_at d 0 (command_complete i Codes.unpair_device (status_of x) (take 7 ps))
        → Gives (immediate_command s i Codes.unpair_device ps unpair_device) r d d' s
    unfolding unpair_device
    refuses x a m w = immediate_address s i Codes.unpair_device ps unpair_device d d' r g big sized_eight x refl (omega arith) a m w

    -- an address type above 2: Invalid Parameters
    pub type_refuses : 2 < get_or ps 6 0 → r ≡ Refused 16
        → d' ≡ write_at d 0 (command_complete i Codes.unpair_device Statuses.invalid_parameters (take 7 ps))
        → Gives (immediate_command s i Codes.unpair_device ps unpair_device) r d d' s
    unfolding octet first_of unless status_of
    type_refuses h m w = refuses AddressTypeAbove2 (unpair_act i (controller_of s i) ps true _ _ _ (lt-ltb 2 (get_or ps 6 0) h) refl refl refl) m w

    module _ (t : get_or ps 6 0 ≤ 2) where
      -- a disconnect octet above 1: Invalid Parameters
      pub disconnect_refuses : 1 < get_or ps 7 0 → r ≡ Refused 16
          → d' ≡ write_at d 0 (command_complete i Codes.unpair_device Statuses.invalid_parameters (take 7 ps))
          → Gives (immediate_command s i Codes.unpair_device ps unpair_device) r d d' s
      unfolding octet first_of unless status_of
      disconnect_refuses h m w =
          refuses DisconnectAbove1 (unpair_act i (controller_of s i) ps false true _ _ (le-ltb 2 (get_or ps 6 0) t) (lt-ltb 1 (get_or ps 7 0) h) refl refl) m w

      module _ (u : get_or ps 7 0 ≤ 1) (o : Settings) (eo : o ≡ settings_of (controller_of s i)) where
        -- the settings that were read tell whether the controller is powered
        power_is : o.radio.powered ≡ (controller_of s i).radio.powered
        unfolding settings_of
        power_is = rw eo

        -- an unpowered controller: Not Powered
        pub power_refuses : o.radio.powered ≡ false → r ≡ Refused 16
            → d' ≡ write_at d 0 (command_complete i Codes.unpair_device Statuses.not_powered (take 7 ps))
            → Gives (immediate_command s i Codes.unpair_device ps unpair_device) r d d' s
        unfolding octet first_of unless status_of
        power_refuses h m w =
            refuses Unpowered (unpair_act i (controller_of s i) ps false false false _ (le-ltb 2 (get_or ps 6 0) t) (le-ltb 1 (get_or ps 7 0) u)
            (sym power_is ∙ h) refl) m w

        module _ (p : o.radio.powered ≡ true) (k : Bool) (ek : k ≡ any_key (begins 7 ps) (controller_of s i).host) where
          -- no key under the address and type: Not Paired
          pub pair_refuses : k ≡ false → r ≡ Refused 16 → d' ≡ write_at d 0 (command_complete i Codes.unpair_device Statuses.not_paired (take 7 ps))
              → Gives (immediate_command s i Codes.unpair_device ps unpair_device) r d d' s
          unfolding octet first_of unless status_of
          pair_refuses h m w =
              refuses NoKeyOfDevice (unpair_act i (controller_of s i) ps false false true false (le-ltb 2 (get_or ps 6 0) t) (le-ltb 1 (get_or ps 7 0) u)
              (sym power_is ∙ p) (sym ek ∙ h)) m w

          -- there is one: all such keys are gone from the three tables, and the reply is Command Complete and Device Unpaired
          pub unpair_done : k ≡ true → (s' : Octets)
              → s' ≡ encode (put_controller (decode s) i (with_host (controller_of s i) (unpaired (begins 7 ps) (controller_of s i).host))) → r ≡ Done 29
              → d' ≡ write_at d 0 (command_complete i Codes.unpair_device 0 (take 7 ps) ++ event Events.device_unpaired i (take 7 ps))
              → Gives (immediate_command s i Codes.unpair_device ps unpair_device) r d d' s'
          unfolding octet first_of unless
          unpair_done h s' es m w =
              let a = unpair_act i (controller_of s i) ps false false true true (le-ltb 2 (get_or ps 6 0) t) (le-ltb 1 (get_or ps 7 0) u)
              (sym power_is ∙ p) (sym ek ∙ h) in
              let n7 : length (take 7 ps) ≡ 7 = length-take-le 7 ps (omega arith) in
              let n : length (command_complete i Codes.unpair_device 0 (take 7 ps) ++ event Events.device_unpaired i (take 7 ps)) ≡ 29 =
              simp (length-append) (omega (
                arith,
                length_complete i Codes.unpair_device 0 (take 7 ps),
                length_event Events.device_unpaired i
                    (take 7 ps) 7 n7,
              )) in
              immediate_done_lem s i Codes.unpair_device ps unpair_device d d' r g big sized_eight s' (take 7 ps) (event Events.device_unpaired i (take 7 ps))
              (unpaired (begins 7 ps) (controller_of s i).host) 29 a m n (omega arith) w es
