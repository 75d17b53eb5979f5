-- What `hub_why` means over the octets of the lent state, which it only reads (02, E3).
use Rattle.std.specs.Prelude.{ℕ, true, false, [], length, ltb}
use Rattle.model.specs.Octets.{Octets}
use Rattle.model.specs.Answers.{number_of}
use Rattle.model.specs.declared.Answer.{Answer}
use Rattle.model.specs.declared.Answer.TheVariants.{Done, BadPacket, SmallBuffer, BadState}
use Rattle.model.specs.Hub.{packet_ok}
use Rattle.model.specs.Layout.{decode}
use Rattle.model.specs.Meanings.{state_ok}
use Rattle.why.specs.Findings.{Finding, status_in, why}
use Rattle.why.specs.Wording.{text_of}

-- the shortest text buffer that is taken (02, E3)
abbrev pub text_buffer : ℕ
text_buffer = 256

-- what is answered: the number, the text, and the status that the hub would answer with
pub record Explained : Type 0 where
  pub answer : ℕ
  pub octets : Octets
  pub status : ℕ

-- nothing is told
unfoldable pub untold : Answer → Explained
untold a = record { answer = number_of a; octets = []; status = 0 }

-- a finding is told
unfoldable pub told : Finding → Explained
told f = record { answer = number_of (Done (length (text_of f))); octets = text_of f; status = status_in f }

-- the state first, as in every call, then the room for the text, then the packet (02, E3; 01, What a call answers)
unfoldable pub hub_why : (state packet : Octets) (room : ℕ) → Explained
hub_why s packet room = elim (state_ok s) [
  | true ↦ elim (ltb room text_buffer) [
    | true ↦ untold SmallBuffer
    | false ↦ elim (packet_ok packet) [ true ↦ told (why (decode s) packet) | false ↦ untold BadPacket ]
  ]
  | false ↦ untold BadState
]

-- Named on an `unfolding` line, this opens every definition of the module: for examples that are computed.
unfoldable pub open_meaning : Unit {0}
unfolding untold told hub_why
open_meaning = tt
