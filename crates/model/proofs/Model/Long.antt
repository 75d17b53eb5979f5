-- A packet over 1,160 octets is refused, whatever it is (02, E6): its length is wrong, or it is a list of more than 32 keys. So it is known by its length and
-- its first ten octets.
use Rattle.std.specs.Prelude.{ℕ, ◌+◌, ◌-◌, ◌*◌, ◌<◌, ◌≤◌, ◌≡◌, refl, Bool, true, false, length, get_or, take, drop, eqb, leb, ltb}
use Rattle.std.proofs.Common.{arith, mul-le-mul_left, sym, ap, ◌∙◌, length-drop, drop_at, get_or-take, length-take-le, take-add, lit≤, eqb-true, ltb-false, ne_eqb}
use Rattle.std.proofs.Math.Option.{Option, none, some}
use Rattle.model.specs.Lengths as Lengths
use Rattle.model.specs.Codes as Codes
use Rattle.model.specs.Octets.{Octets, bytes, command_complete, octet, u16}
use Rattle.model.specs.State.{Controller, Hub, PlainHub, controller_at}
use Rattle.model.specs.Reasons.{Reason, CodeUnknown, ControllerAbsent, CountAbove32, IndexNotNone, LengthWrong, first_of}
use Rattle.model.specs.Tables.{identity_key_rule, link_key_rule, long_term_key_rule}
use Rattle.model.specs.Rules.{ImmediateRule, RadioRule, Rule, general, immediate, radio, unless, set_connectable, set_discoverable, set_low_energy}
use Rattle.model.specs.Rules.{set_powered}
use Rattle.model.specs.Rules.{set_bredr, set_static_address}
use Rattle.model.specs.Immediate.{KeyList, add_advertising, add_device, add_uuid, block_device, counted, identity_key_list, link_key_list, list_checks}
use Rattle.model.specs.Immediate.{load_keys, long_term_key_list}
use Rattle.model.specs.Immediate.{read_information, remove_advertising, remove_device, remove_uuid, set_bondable, set_local_name, sized, unblock_device}
use Rattle.model.specs.Immediate.{unpair_device}
use Rattle.model.specs.Commands.{rows, rule}
use Rattle.model.specs.Hub.{Outcome, anyway, bad_packet, by_rule, by_status, call, code_of, command, command_out, finished, general_out}
use Rattle.model.specs.Hub.{immediate_at, immediate_done}
use Rattle.model.specs.Hub.{index_of, no_room, packet_ok, params_of, radio_at, refusal_form, refused, verdict}
use Rattle.model.specs.Long.{by_list, controller_reason, list_fits, long_reason}
use Rattle.model.proofs.Model.EveryRow.{Each, ◌&◌, end, found}
use Rattle.model.proofs.Model.Tables.{byte_at, bytes_drop}
use Rattle.model.proofs.Model.Tests.{and_off, branch}

-- 1. The rows -----------------------------------------------------------------------------------------------------------------------------

-- the parameters of a long packet
pub record LongParams (ps : Octets) : Type 0 where
  pub long : 1154 < length ps
  pub octets : bytes ps ≡ true

-- what a command that is never Busy makes of them: the length is wrong, or it is right and the count is above 32
pub data Long (q : ImmediateRule) (c : Controller) (ps : Octets) : Bool → Type 0 where
  -- Invalid Parameters
  wrong_length : q.size ps ≡ false → Long q c ps false
  -- No Resources
  too_many : q.size ps ≡ true → q.by_address ≡ false → first_of (q.checks c ps) ≡ some CountAbove32 → Long q c ps true

-- what is shown of the rule of a code
unfoldable pub LongRule : ℕ → Rule → Type 0
LongRule code (general f) = Unit {0}
LongRule code (immediate q) = (c : Controller) (ps : Octets) → LongParams ps → Long q c ps (list_fits code (length ps) ps)
LongRule code (radio r) = (r.size ≤ 1154) × ((n : ℕ) (ps : Octets) → list_fits code n ps ≡ false)

-- a command with so many octets of parameters, always the same number
fixed_size : (n : ℕ) (q : ImmediateRule) → n ≤ 1154 → ((o : Octets) → q.size o ≡ sized n o) → (c : Controller) (ps : Octets) → LongParams ps
    → Long q c ps false
unfolding sized
fixed_size n q h e c ps a = wrong_length (e ps ∙ ne_eqb (length ps) n (λ (k : length ps ≡ n). omega (arith, a.long)))

-- no settings command is a list of keys, and none is so long
radio_row : (code : ℕ) (r : RadioRule) → r.size ≤ 1154 → ((n : ℕ) (ps : Octets) → list_fits code n ps ≡ false) → LongRule code (radio r)
unfolding LongRule
radio_row code r h l = (h, l)

-- Add Advertising has at most 521 octets
advertising_long : (c : Controller) (ps : Octets) → LongParams ps → Long add_advertising c ps false
unfolding add_advertising octet
advertising_long c ps a =
    let n : ℕ = 11 + get_or ps 9 0 + get_or ps 10 0 in
    let e : eqb (length ps) n ≡ false
    = ne_eqb (length ps) n (λ (k : length ps ≡ n). omega (arith, a.long, byte_at ps 9 a.octets, byte_at ps 10 a.octets)) in
    wrong_length (rw e (and_off (leb 11 (length ps))))

-- a list of keys whose count is above 32
above_32 : (l : KeyList) (c : Controller) (ps : Octets) → ltb 32 (u16 ps l.count_at) ≡ true → first_of ((load_keys l).checks c ps) ≡ some CountAbove32
unfolding load_keys list_checks first_of
above_32 l c ps t = rw t

-- one that is so long has more than 32
more_than_32 : (at size n len : ℕ) → at + 2 + size * 32 ≤ 1154 → 1154 < len → len ≡ at + 2 + size * n → ltb 32 n ≡ true
more_than_32 at size n len h l e = go (ltb 32 n) refl
  where
    go : (b : Bool) → ltb 32 n ≡ b → b ≡ true
    go true t = refl
    go false t = let m : size * n ≤ size * 32 = mul-le-mul_left size (ltb-false 32 n t) in absurd (omega arith)

-- a list of keys
list_long : (l : KeyList) → l.count_at + 2 + l.rule.size * 32 ≤ 1154 → (c : Controller) (ps : Octets) → LongParams ps
    → Long (load_keys l) c ps (counted l (length ps) ps)
unfolding load_keys
list_long l h c ps a = go (counted l (length ps) ps) refl
  where
    go : (b : Bool) → counted l (length ps) ps ≡ b → Long (load_keys l) c ps b
    go false t = wrong_length t
    go true t =
        too_many t refl
        (above_32 l c ps (more_than_32 l.count_at l.rule.size (u16 ps l.count_at) (length ps) h a.long (eqb-true _ _ t)))

-- every row is such a one
all_long : Each LongRule rows
unfolding rows LongRule list_fits by_list set_powered set_discoverable set_connectable set_low_energy set_bredr set_static_address read_information set_bondable
    set_local_name
    add_uuid remove_uuid unpair_device block_device unblock_device add_device remove_device remove_advertising link_key_list long_term_key_list identity_key_list
    link_key_rule long_term_key_rule identity_key_rule
all_long =
    tt
    & tt
    & tt
    & fixed_size 0 read_information (lit≤ tt) (λ o. refl)
    & radio_row Codes.set_powered set_powered (lit≤ tt) (λ n ps. refl)
    & radio_row Codes.set_discoverable set_discoverable (lit≤ tt) (λ n ps. refl)
    & radio_row Codes.set_connectable set_connectable (lit≤ tt) (λ n ps. refl)
    & fixed_size 1 set_bondable (lit≤ tt) (λ o. refl)
    & radio_row Codes.set_low_energy set_low_energy (lit≤ tt) (λ n ps. refl)
    & fixed_size 260 set_local_name (lit≤ tt) (λ o. refl)
    & fixed_size 17 add_uuid (lit≤ tt) (λ o. refl)
    & fixed_size 16 remove_uuid (lit≤ tt) (λ o. refl)
    & list_long link_key_list (lit≤ tt)
    & list_long long_term_key_list (lit≤ tt)
    & fixed_size 8 unpair_device (lit≤ tt) (λ o. refl)
    & fixed_size 7 block_device (lit≤ tt) (λ o. refl)
    & fixed_size 7 unblock_device (lit≤ tt) (λ o. refl)
    & radio_row Codes.set_bredr set_bredr (lit≤ tt) (λ n ps. refl)
    & radio_row Codes.set_static_address set_static_address (lit≤ tt) (λ n ps. refl)
    & list_long identity_key_list (lit≤ tt)
    & fixed_size 8 add_device (lit≤ tt) (λ o. refl)
    & fixed_size 7 remove_device (lit≤ tt) (λ o. refl)
    & advertising_long
    & fixed_size 1 remove_advertising (lit≤ tt) (λ o. refl)
    & end

-- so is the row that a code finds
long_row : (code : ℕ) (u : Rule) → rule code ≡ some u → LongRule code u
unfolding rule
long_row code u e = found LongRule code rows u all_long e

-- 2. The reason -----------------------------------------------------------------------------------------------------------------------------

-- a command that only tells has no parameters
general_long : (p : PlainHub) (i code : ℕ) (ps : Octets) (f : PlainHub → Octets) (fits : Bool) (s : Option Controller) → LongParams ps
    → general_out p i code ps f ≡ refused (by_status i code) (long_reason i fits s (some (general f)))
unfolding general_out long_reason
general_long p i code ps f fits s a =
    let z : eqb (length ps) 0 ≡ false = ne_eqb (length ps) 0 (λ (e : length ps ≡ 0). omega (arith, a.long)) in
    ap {B = Outcome} (λ (b : Bool). elim (eqb i 0xFFFF) [
      | true ↦ elim b [ true ↦ finished (command_complete i code 0 (f p)) p | false ↦ refused (by_status i code) LengthWrong ]
      | false ↦ refused (by_status i code) IndexNotNone
    ]) z
    ∙ branch (refused (by_status i code)) (eqb i 0xFFFF) refl refl

-- where the count is above 32
at_many : (p : PlainHub) (i code : ℕ) (ps : Octets) (q : ImmediateRule) (c : Controller) → q.size ps ≡ true → q.by_address ≡ false
    → first_of (q.checks c ps) ≡ some CountAbove32 → immediate_at p i code ps q (some c) ≡ refused (by_status i code) CountAbove32
unfolding immediate_at immediate_done refusal_form unless
at_many p i code ps q c e a r = rw (e, immediate_at, a, r)

-- a command to a controller that is never Busy
immediate_long : (p : PlainHub) (i code : ℕ) (ps : Octets) (q : ImmediateRule) (fits : Bool) → ((c : Controller) → Long q c ps fits) → (s : Option Controller)
    → immediate_at p i code ps q s ≡ refused (by_status i code) (controller_reason fits s)
unfolding immediate_at controller_reason
immediate_long p i code ps q fits l none = refl
immediate_long p i code ps q fits l (some c) = by fits (l c)
  where
    by : (b : Bool) → Long q c ps b → immediate_at p i code ps q (some c) ≡ refused (by_status i code) (controller_reason b (some c))
    by b (wrong_length e) = rw (e, immediate_at)
    by b (too_many e a r) = at_many p i code ps q c e a r

-- a settings command: its length is wrong
radio_long : (p : PlainHub) (i code : ℕ) (ps : Octets) (r : RadioRule) → r.size ≤ 1154 → LongParams ps → (s : Option Controller)
    → radio_at p i code ps r s ≡ anyway (refused (by_status i code) (controller_reason false s))
unfolding radio_at controller_reason
radio_long p i code ps r h a none = refl
radio_long p i code ps r h a (some c) =
    let e : eqb (length ps) r.size ≡ false = ne_eqb (length ps) r.size (λ (k : length ps ≡ r.size). omega (arith, a.long)) in
    rw (e, radio_at)

-- a command, by its rule
by_rule_lem : (p : PlainHub) (i code : ℕ) (ps : Octets) → LongParams ps → (u : Option Rule) → rule code ≡ u
    → by_rule p i code ps u ≡ anyway (refused (by_status i code) (long_reason i (list_fits code (length ps) ps) (controller_at p i) u))
unfolding by_rule LongRule long_reason
by_rule_lem p i code ps a none e = refl
by_rule_lem p i code ps a (some (general f)) e = ap anyway (general_long p i code ps f (list_fits code (length ps) ps) (controller_at p i) a)
by_rule_lem p i code ps a (some (immediate q)) e =
    ap anyway (immediate_long p i code ps q (list_fits code (length ps) ps) (λ c. long_row code (immediate q) e c ps a) (controller_at p i))
by_rule_lem p i code ps a (some (radio r)) e =
    let l = long_row code (radio r) e in rw (l.1 (length ps) ps) (radio_long p i code ps r l.0 a (controller_at p i))

-- A LONG PACKET IS REFUSED, and nothing but its code, its index, its length and its count decide why
pub long_refused : (p : PlainHub) (i code : ℕ) (ps : Octets) → LongParams ps
    → by_rule p i code ps (rule code)
    ≡ anyway (refused (by_status i code) (long_reason i (list_fits code (length ps) ps) (controller_at p i) (rule code)))
long_refused p i code ps a = by_rule_lem p i code ps a (rule code) refl

-- 3. The packet -----------------------------------------------------------------------------------------------------------------------------

-- two long packets, alike in length and in their first ten octets
pub record Alike (p q : Octets) : Type 0 where
  pub long : Lengths.longest_kept < length p
  pub size : length p ≡ length q
  pub ten : take Lengths.long_head p ≡ take Lengths.long_head q
  pub octets : (bytes p ≡ true) × (bytes q ≡ true)

-- a number that stands in the first m octets
pub same_number : (m k : ℕ) (p q : Octets) → k + 1 < m → take m p ≡ take m q → u16 p k ≡ u16 q k
unfolding u16
same_number m k p q h e =
    let a : (j : ℕ) → j < m → get_or p j 0 ≡ get_or q j 0
    = λ j l. sym (get_or-take m p j 0 l) ∙ ap (λ (o : Octets). get_or o j 0) e ∙ get_or-take m q j 0 l in
    rw (a k (omega arith), a (k + 1) (omega arith))

-- the four octets behind the header
behind_header : (p : Octets) → 1160 < length p → drop 6 (take 10 p) ≡ take 4 (drop 6 p)
behind_header p h = ap (λ (o : Octets). drop 6 o) (take-add 6 4 p) ∙ drop_at (take 6 p) (take 4 (drop 6 p)) 6 (length-take-le 6 p (omega arith))

-- the parameters of a long packet
pub params_long : (p : Octets) → 1160 < length p → bytes p ≡ true → LongParams (drop 6 p)
params_long p h b = record { long = simp length-drop (omega arith); octets = bytes_drop 6 p b }

-- the parameters of two that are alike
same_params : (p q : Octets) → Alike p q → (length (drop 6 p) ≡ length (drop 6 q)) × (take 4 (drop 6 p) ≡ take 4 (drop 6 q))
same_params p q a = (
  length-drop 6 p ∙ ap (λ (n : ℕ). n - 6) a.size ∙ sym (length-drop 6 q),
  sym (behind_header p a.long) ∙ ap (λ (o : Octets). drop 6 o) a.ten ∙ behind_header q (omega (arith, a.long, a.size)),
)

-- the count of a list stands in the first four octets of its parameters
pub same_fits : (code n : ℕ) (ps qs : Octets) → take 4 ps ≡ take 4 qs → list_fits code n ps ≡ list_fits code n qs
unfolding list_fits link_key_list long_term_key_list identity_key_list
same_fits code n ps qs e = rw (same_number 4 0 ps qs (lit≤ tt) e, same_number 4 1 ps qs (lit≤ tt) e)

-- one is well sized exactly if the other is
same_ok : (p q : Octets) → Alike p q → packet_ok p ≡ packet_ok q
unfolding packet_ok
same_ok p q a = rw (same_number 10 4 p q (lit≤ tt) a.ten, (same_params p q a).0, a.size)

-- with room and a right length the verdict is the rule's
pub verdict_rule : (h : PlainHub) (room : ℕ) (p : Octets) → ltb room Lengths.reply_buffer ≡ false → packet_ok p ≡ true
    → verdict h room p ≡ by_rule h (index_of p) (code_of p) (params_of p) (rule (code_of p))
unfolding verdict
verdict_rule h room p r e = rw (r, verdict, e)

-- with a wrong length it is answer 3
verdict_bad : (h : PlainHub) (room : ℕ) (p : Octets) → ltb room Lengths.reply_buffer ≡ false → packet_ok p ≡ false → verdict h room p ≡ anyway bad_packet
unfolding verdict
verdict_bad h room p r e = rw (r, verdict, e)

-- without room it is answer 4
verdict_small : (h : PlainHub) (room : ℕ) (p : Octets) → ltb room Lengths.reply_buffer ≡ true → verdict h room p ≡ anyway no_room
unfolding verdict
verdict_small h room p r = rw (r, verdict)

-- what the rule of a code says to both
same_rule : (h : PlainHub) (i code : ℕ) (p q : Octets) → Alike p q
    → (o : Outcome) × (by_rule h i code (drop 6 p) (rule code) ≡ anyway o) × (by_rule h i code (drop 6 q) (rule code) ≡ anyway o)
same_rule h i code p q a =
    let s = same_params p q a in
    let b = params_long q (omega (arith, a.long, a.size)) a.octets.1 in (
      refused (by_status i code) (long_reason i (list_fits code (length (drop 6 q)) (drop 6 q)) (controller_at h i) (rule code)),
      rw (← s.0, ← same_fits code (length (drop 6 p)) (drop 6 p) (drop 6 q) s.1) (long_refused h i code (drop 6 p) (params_long p a.long a.octets.0)),
      long_refused h i code (drop 6 q) b,
    )

-- the same verdict, whatever is under way
same_verdict : (h : PlainHub) (room : ℕ) (p q : Octets) → Alike p q → (o : Outcome) × (verdict h room p ≡ anyway o) × (verdict h room q ≡ anyway o)
unfolding index_of code_of
same_verdict h room p q a = go (ltb room Lengths.reply_buffer) (packet_ok p) refl refl
  where
    go : (b c : Bool) → ltb room Lengths.reply_buffer ≡ b → packet_ok p ≡ c → (o : Outcome) × (verdict h room p ≡ anyway o) × (verdict h room q ≡ anyway o)
    go true c r e = (no_room, verdict_small h room p r, verdict_small h room q r)
    go false false r e = (bad_packet, verdict_bad h room p r e, verdict_bad h room q r (sym (same_ok p q a) ∙ e))
    go false true r e =
        let v = same_rule h (index_of q) (code_of q) p q a in
        let vp : verdict h room p ≡ by_rule h (index_of q) (code_of q) (drop 6 p) (rule (code_of q))
        = rw (verdict_rule h room p r e, same_number 10 0 p q (lit≤ tt) a.ten, same_number 10 2 p q (lit≤ tt) a.ten) refl in
        (v.0, vp ∙ v.1, verdict_rule h room q r (sym (same_ok p q a) ∙ e) ∙ v.2)

-- A LONG PACKET is known by its length and its first ten octets
pub long_call : (h : Hub) (room : ℕ) (p q : Octets) → Alike p q → call h (command room p) ≡ call h (command room q)
unfolding call command_out
long_call h room p q a = let v = same_verdict h.plain room p q a in rw (v.1, v.2)
