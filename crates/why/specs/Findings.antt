-- Why the hub would refuse a packet: the first check that fails, and where (02, E3). The checks with their conditions, reasons and places stand in the model's
-- rules; here stands their order, from the packet's header on. That the hub answers so is a theorem (proofs/Theorems.antt).
use Rattle.std.specs.Prelude.{ℕ, Bool, true, false, not, List, [], ◌∷◌, length, eqb, Result, Ok, Err}
use Rattle.std.proofs.Math.Option.{Option, none, some}
use Rattle.model.specs.Statuses as Statuses
use Rattle.model.specs.Octets.{Octets}
use Rattle.model.specs.State.{Controller, OpenCommand, Hub, controller_at}
use Rattle.model.specs.Reasons.{Check, refused_at, status_of, further, moved}
use Rattle.model.specs.declared.RadioSettings.{RadioSettings}
use Rattle.model.specs.declared.Reason.{Reason}
use Rattle.model.specs.declared.Reason.TheVariants.{CodeUnknown, IndexNotNone, ControllerAbsent, LengthWrong}
use Rattle.model.specs.declared.Place.{Place}
use Rattle.model.specs.declared.Place.TheVariants.{AtOctet}
use Rattle.model.specs.Rules.{RadioRule, ImmediateRule, Rule, general, immediate, radio}
use Rattle.model.specs.Commands.{rule}
use Rattle.model.specs.Hub.{code_of, index_of, params_of, under_way}
use Rattle.why.specs.declared.Objection.{Objection}
use Rattle.why.specs.declared.Objection.TheVariants.{Busy, Wrong}

-- what is found of a packet: nothing, so that the hub would take it, or the first objection
abbrev pub Finding : Type 0
Finding = Result (Unit {0}) Objection

-- the status that the hub would answer with, 0 if it would take the packet
unfoldable pub status_in : Finding → ℕ
status_in (Ok _) = Statuses.success
status_in (Err Busy) = Statuses.busy
status_in (Err (Wrong r p)) = status_of r

-- the first of two findings that says anything
unfoldable pub and_then : Finding → Finding → Finding
and_then (Ok _) g = g
and_then (Err o) g = Err o

-- what one check finds
unfoldable pub checked : Bool → Reason → Place → Finding
checked true r p = Err (Wrong r p)
checked false r p = Ok tt

-- what checks find, one after the other: the first that fails, with its place
unfoldable pub first_wrong : List Check → Finding
first_wrong [] = Ok tt
first_wrong (c ∷ cs) = and_then (checked c.fails c.reason c.place) (first_wrong cs)

-- Busy, while a command is under way
unfoldable pub busy_if : Bool → Finding
busy_if true = Err Busy
busy_if false = Ok tt

-- a command is under way
unfoldable pub is_open : Option OpenCommand → Bool
is_open none = false
is_open (some o) = true

-- checks of parameters, which begin at octet 6 of the packet
unfoldable pub in_packet : List Check → List Check
in_packet cs = moved (further 6) cs

-- a command to no controller: its index, then its length (01, Order inside a command)
unfoldable pub why_general : ℕ → Octets → Finding
why_general i ps = first_wrong ((refused_at 2 (not (eqb i 0xFFFF)) IndexNotNone) ∷ (refused_at 4 (not (eqb (length ps) 0)) LengthWrong) ∷ [])

-- a command that is never Busy: its length, then its checks
unfoldable pub why_immediate : ImmediateRule → Controller → Octets → Finding
why_immediate q c ps = first_wrong ((refused_at (q.length_at ps) (not (q.size ps)) LengthWrong) ∷ in_packet (q.checks c ps))

-- a settings command: its length, the checks before Busy, Busy while a command is under way, and the checks after it
unfoldable pub why_radio : RadioRule → RadioSettings → Bool → Octets → Finding
why_radio r x busy ps =
    and_then (first_wrong ((refused_at 4 (not (eqb (length ps) r.size)) LengthWrong) ∷ in_packet (r.before_busy x ps)))
    (and_then (busy_if busy) (first_wrong (in_packet (r.after_busy x ps))))

-- a command to a controller: first that it is there
unfoldable pub why_at : Option Controller → (Controller → Finding) → Finding
why_at none f = Err (Wrong ControllerAbsent (AtOctet 2))
why_at (some c) f = f c

-- by the rule of the code, if the code is known
unfoldable pub why_by : Hub → ℕ → Octets → Option Rule → Finding
why_by h i ps none = Err (Wrong CodeUnknown (AtOctet 0))
why_by h i ps (some (general f)) = why_general i ps
why_by h i ps (some (immediate q)) = why_at (controller_at h.plain i) (λ c. why_immediate q c ps)
why_by h i ps (some (radio r)) = why_at (controller_at h.plain i) (λ c. why_radio r c.radio (is_open (under_way h i)) ps)

-- why the hub would refuse a packet, if it would
unfoldable pub why : Hub → Octets → Finding
why h packet = why_by h (index_of packet) (params_of packet) (rule (code_of packet))

-- Named on an `unfolding` line, this opens every definition of the module: for examples that are computed.
unfoldable pub open_findings : Unit {0}
unfolding status_in and_then checked first_wrong busy_if is_open in_packet why_general why_immediate why_radio why_at why_by why
open_findings = tt
