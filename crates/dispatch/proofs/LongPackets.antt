-- A packet over 1,160 octets: why it is refused, case by case, and that the refusal is what its command comes to.
-- Assumes nothing.
use Prim.Native.Nat.{ℕ, ◌+◌, ◌-◌, ◌*◌, ◌≤◌, ◌<◌}
use native.Mathlib.Omega.{arith}
use mathlib.Core.Path.{◌≡◌, refl, sym, ap, ◌∙◌}
use mathlib.Core.Bool.{Bool, true, false}
use mathlib.Core.List.{◌++◌}
use mathlib.Core.Option.{Option, none, some}
use lib.ListN.{length, take, replicate, length-append, length-replicate}
use lib.Seq.{take_at, take_all}
use lib.Dec.{eqb}
use borrow.Author.Tests.{ne_eqb}
use Rattle.model.specs.Lengths as Lengths
use Rattle.model.specs.Codes as Codes
use Rattle.model.specs.Statuses as Statuses
use Rattle.model.specs.Octets.{Octets, bytes, command_status, u16}
use Rattle.model.specs.State.{Controller, PlainHub, controller_at}
use Rattle.model.specs.Reasons.{status_of}
use Rattle.model.specs.declared.Reason.TheVariants.{IndexNotNone}
use Rattle.model.specs.Rules.{Rule, immediate, radio}
use Rattle.model.specs.Rules.{general as is_general}
use Rattle.model.specs.Tables.{identity_key_rule, link_key_rule, long_term_key_rule}
use Rattle.model.specs.Immediate.{identity_key_list, link_key_list, long_term_key_list}
use Rattle.model.specs.Commands.{rule}
use Rattle.model.specs.Hub.{command_out}
use Rattle.model.specs.Layout.{decode}
use Rattle.model.specs.Meanings.{state_ok}
use Rattle.model.proofs.Model.Long.{LongParams, long_refused, same_fits}
use Rattle.model.specs.Long.{by_list, controller_reason, list_fits, long_reason}
use Rattle.model.proofs.Model.Tests.{no_way}
use Rattle.model.proofs.Model.WaitingOctets.{bytes_zeros}
use Rattle.octets.specs.Parts.{write_at}
use Rattle.replies.specs.Answers.{Gives}
use Rattle.model.specs.declared.Answer.{Answer}
use Rattle.model.specs.declared.Answer.TheVariants.{Refused}
use Rattle.outcomes.specs.Outcomes.{any_command, ended}
use Rattle.outcomes.proofs.Endings.{ends_refused}
use Rattle.dispatch.specs.declared.command.ControllerCommand.{ControllerCommand}
use Rattle.dispatch.specs.declared.command.HubCommand.{HubCommand}
use Rattle.dispatch.specs.Commands.{controller_code, hub_code}
use Rattle.dispatch.proofs.Commands.{controller_rule, hub_rule, is_controllers}

-- 1. Lists ------------------------------------------------------------------------------------------------------------------------------------------

-- link keys: three octets, and 25 for each
pub fits_link : (code n : ℕ) (o : Octets) → code ≡ Codes.load_link_keys → eqb n (3 + 25 * u16 o 1) ≡ list_fits code n o
unfolding list_fits by_list link_key_list link_key_rule
fits_link code n o e = rw e refl

-- long term keys: two octets, and 36 for each
pub fits_long_term : (code n : ℕ) (o : Octets) → code ≡ Codes.load_long_term_keys → eqb n (2 + 36 * u16 o 0) ≡ list_fits code n o
unfolding list_fits by_list long_term_key_list long_term_key_rule
fits_long_term code n o e = rw e refl

-- identity resolving keys: two octets, and 23 for each
pub fits_identity : (code n : ℕ) (o : Octets) → code ≡ Codes.load_identity_keys → eqb n (2 + 23 * u16 o 0) ≡ list_fits code n o
unfolding list_fits by_list identity_key_list identity_key_rule
fits_identity code n o e = rw e refl

-- any other code is that of no list
pub fits_none : (code n : ℕ) (o : Octets) → (code ≡ Codes.load_link_keys → ⊥) → (code ≡ Codes.load_long_term_keys → ⊥) → (code ≡ Codes.load_identity_keys → ⊥)
    → false ≡ list_fits code n o
unfolding list_fits by_list
fits_none code n o a b c = rw (ne_eqb code Codes.load_link_keys a, by_list, ne_eqb code Codes.load_long_term_keys b, ne_eqb code Codes.load_identity_keys c) refl

-- 2. The status -------------------------------------------------------------------------------------------------------------------------------------

-- a command to a controller, by its rule
to_controller_reason : (i : ℕ) (fits : Bool) (x : Option Controller) (u : Option Rule) → is_controllers u ≡ true → long_reason i fits x u ≡ controller_reason fits x
unfolding is_controllers long_reason
to_controller_reason i fits x none t = no_way (sym t)
to_controller_reason i fits x (some (is_general f)) t = no_way (sym t)
to_controller_reason i fits x (some (immediate q)) t = refl
to_controller_reason i fits x (some (radio r)) t = refl

module _ (i code : ℕ) (fits : Bool) (x : Option Controller) where
  -- to no controller, and with that index: the length
  pub status_length : (k : HubCommand) → code ≡ hub_code k → i ≡ 0xFFFF → Statuses.invalid_parameters ≡ status_of (long_reason i fits x (rule code))
  unfolding long_reason status_of
  status_length k ec e = let g = hub_rule k in rw (ec, g.1, e) refl

  -- with another index that is the reason
  other_index : (f : PlainHub → Octets) → (i ≡ 0xFFFF → ⊥) → long_reason i fits x (some (is_general f)) ≡ IndexNotNone
  unfolding long_reason
  other_index f n = rw (ne_eqb i 0xFFFF n, long_reason)

  -- with another: the index
  pub status_index : (k : HubCommand) → code ≡ hub_code k → (i ≡ 0xFFFF → ⊥) → Statuses.invalid_index ≡ status_of (long_reason i fits x (rule code))
  unfolding status_of
  status_index k ec n = let g = hub_rule k in rw (ec, g.1, other_index g.0 n) refl

  -- to a controller that is there, a list of as many keys as it says: the count
  pub status_count : (k : ControllerCommand) → code ≡ controller_code k → (c : Controller) → x ≡ some c → fits ≡ true → Statuses.no_resources ≡ status_of (long_reason i fits x (rule code))
  unfolding controller_reason status_of
  status_count k ec c e f = rw (to_controller_reason i fits x (rule code) (rw ec (controller_rule k)), e, f) refl

  -- anything else: the length
  pub status_wrong : (k : ControllerCommand) → code ≡ controller_code k → (c : Controller) → x ≡ some c → fits ≡ false
      → Statuses.invalid_parameters ≡ status_of (long_reason i fits x (rule code))
  unfolding controller_reason status_of
  status_wrong k ec c e f = rw (to_controller_reason i fits x (rule code) (rw ec (controller_rule k)), e, f) refl

  -- to one that is not there: the index
  pub status_absent : (k : ControllerCommand) → code ≡ controller_code k → x ≡ none → Statuses.invalid_index ≡ status_of (long_reason i fits x (rule code))
  unfolding controller_reason status_of
  status_absent k ec e = rw (to_controller_reason i fits x (rule code) (rw ec (controller_rule k)), e) refl

  -- a code that is not known
  pub status_unknown : rule code ≡ none → Statuses.unknown_command ≡ status_of (long_reason i fits x (rule code))
  unfolding long_reason status_of
  status_unknown e = rw e refl

-- 3. The refusal ------------------------------------------------------------------------------------------------------------------------------------

-- what a long packet comes to with zeros behind the first four octets of its parameters
pub refuse_long : (s : Octets) (i code n : ℕ) (o d d' : Octets) (r : Answer) → state_ok s ≡ true → bytes o ≡ true → 1154 < n → length o ≡ 4
    → Lengths.reply_buffer ≤ length d → r ≡ Refused 9
    → d' ≡ write_at d 0 (command_status i code (status_of (long_reason i (list_fits code n o) (controller_at (decode s).plain i) (rule code))))
    → Gives (any_command s i code (o ++ replicate (n - 4) 0)) r d d' s
unfolding any_command command_out ended
refuse_long s i code n o d d' r ok w l four big e k =
    let z : Octets = replicate (n - 4) 0 in
    let m : length (o ++ z) ≡ n = length-append o z ∙ omega (arith, length-replicate {A = ℕ} (n - 4) 0) in
    let p : LongParams (o ++ z) = record { long = rw m l; octets = bytes_zeros o (n - 4) w } in
    let t : take 4 (o ++ z) ≡ take 4 o = take_at o z 4 four ∙ sym (take_all 4 o (omega arith)) in
    let f : list_fits code (length (o ++ z)) (o ++ z) ≡ list_fits code n o = ap (λ (j : ℕ). list_fits code j (o ++ z)) m ∙ same_fits code n (o ++ z) o t in
    rw (long_refused (decode s).plain i code (o ++ z) p, f) (ends_refused s i code _ d d' r ok big e k)
