-- Why a packet that is too long to be kept is refused: its length and its first ten octets tell it (02, E6).
use Rattle.std.specs.Prelude.{ℕ, Bool, true, false, eqb}
use Rattle.std.proofs.Math.Option.{Option, none, some}
use Rattle.model.specs.Codes as Codes
use Rattle.model.specs.Octets.{Octets}
use Rattle.model.specs.State.{Controller}
use Rattle.model.specs.Reasons.{Reason, CodeUnknown, ControllerAbsent, CountAbove32, IndexNotNone, LengthWrong}
use Rattle.model.specs.Rules.{Rule, general, immediate, radio}
use Rattle.model.specs.Immediate.{counted, identity_key_list, link_key_list, long_term_key_list}

-- of three answers that of the list with this code, and no for a code that is none of a list
unfoldable pub by_list : (code : ℕ) (link long_term identity : Bool) → Bool
by_list code link long_term identity =
    elim (eqb code Codes.load_link_keys) [
      | true ↦ link
      | false ↦ elim (eqb code Codes.load_long_term_keys) [
        | true ↦ long_term
        | false ↦ elim (eqb code Codes.load_identity_keys) [ true ↦ identity | false ↦ false ]
      ]
    ]

-- the code is that of a list of keys, and n octets of parameters that begin so are as many as its count says
unfoldable pub list_fits : ℕ → ℕ → Octets → Bool
list_fits code n ps = by_list code (counted link_key_list n ps) (counted long_term_key_list n ps) (counted identity_key_list n ps)

-- of a command to a controller: no controller is there, the count is above 32, or the length is wrong
unfoldable pub controller_reason : Bool → Option Controller → Reason
controller_reason fits none = ControllerAbsent
controller_reason fits (some c) = elim fits [ true ↦ CountAbove32 | false ↦ LengthWrong ]

-- why a long packet is refused: its code, its index, its length, its count
unfoldable pub long_reason : (index : ℕ) (fits : Bool) → Option Controller → Option Rule → Reason
long_reason i fits s none = CodeUnknown
long_reason i fits s (some (general f)) = elim (eqb i 0xFFFF) [ true ↦ LengthWrong | false ↦ IndexNotNone ]
long_reason i fits s (some (immediate q)) = controller_reason fits s
long_reason i fits s (some (radio r)) = controller_reason fits s
