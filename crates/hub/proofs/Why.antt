-- Why a packet would be refused: the ways out of `hub_why`, each as one law over plain variables.
use Prim.Native.Nat.{ℕ, ◌+◌, ◌*◌, ◌≤◌, ◌<◌}
use native.Mathlib.Omega.{arith}
use mathlib.Core.Path.{◌≡◌, refl, ◌∙◌}
use mathlib.Core.Bool.{true, false}
use lib.ListN.{length}
use borrow.Author.Tests.{le-ltb, lt-ltb}
use Rattle.model.specs.Lengths as Lengths
use Rattle.model.specs.Octets.{Octets}
use Rattle.model.specs.Answers.{count_of}
use Rattle.model.specs.declared.Answer.TheVariants.{BadPacket, BadState, Done, SmallBuffer}
use Rattle.model.specs.Commands.{rule}
use Rattle.model.specs.Hub.{code_of, index_of, packet_ok, params_of}
use Rattle.model.specs.Layout.{decode}
use Rattle.model.specs.Meanings.{state_ok}
use Rattle.octets.specs.Parts.{write_at}
use Rattle.octets.proofs.Parts.{write_front}
use Rattle.why.specs.Findings.{Finding, status_in, why, why_by}
use Rattle.why.specs.Wording.{text_of}
use Rattle.why.specs.Meaning.{hub_why, text_buffer, told, untold}
use Rattle.why.proofs.Lengths.{text_short}
use Rattle.hub.specs.Entries.{Explains, packed}

-- by code, index and parameters
pub found_is : (s packet : Octets) (code index : ℕ) (ps : Octets) (f : Finding) → code ≡ code_of packet → index ≡ index_of packet → ps ≡ params_of packet
    → f ≡ why_by (decode s) index ps (rule code) → f ≡ why (decode s) packet
unfolding why
found_is s packet code index ps f ec ei ep e = e ∙ rw (ec, ei, ep)

-- the text is never longer than any answer's count
pub text_count : (f : Finding) (n : ℕ) → n ≡ length (text_of f) → count_of (Done n) ≤ Lengths.largest_image
text_count f n e = let h = text_short f in omega arith

-- so the number that holds it is small
pub packed_small : (f : Finding) (n p : ℕ) → n ≡ length (text_of f) → p ≡ packed (Done n) → p ≤ 65536
unfolding packed
packed_small f n p en ep = let h = text_short f in omega arith

-- a finding told: the words at the front of the buffer, count and status in the number
pub tells : (f : Finding) (n status p r : ℕ) (d d' : Octets) → text_buffer ≤ length d → d' ≡ write_at d 0 (text_of f) → n ≡ length (text_of f)
    → status ≡ status_in f
    → p ≡ packed (Done n) → r ≡ p + 0x100000000 * status → Explains (told f) r d d'
unfolding told packed
tells f n status p r d d' l w en es ep er =
    let h = text_short f in
    record { number = er ∙ rw (ep, en, es); text = w ∙ write_front d (text_of f) (omega arith) }

module _ (s packet : Octets) (room : ℕ) (d : Octets) where
  -- the state is not well formed
  pub why_bad : (r : ℕ) → state_ok s ≡ false → r ≡ packed BadState → Explains (hub_why s packet room) r d d
  unfolding hub_why untold packed
  why_bad r e n = rw (hub_why, e) (record { number = n; text = refl })

  -- no room for the text
  pub why_no_room : (r : ℕ) → state_ok s ≡ true → room < text_buffer → r ≡ packed SmallBuffer → Explains (hub_why s packet room) r d d
  unfolding hub_why untold packed
  why_no_room r e l n = rw (hub_why, e, lt-ltb room text_buffer l) (record { number = n; text = refl })

  -- not a packet
  pub why_no_packet : (r : ℕ) → state_ok s ≡ true → text_buffer ≤ room → packet_ok packet ≡ false → r ≡ packed BadPacket → Explains (hub_why s packet room) r d d
  unfolding hub_why untold packed
  why_no_packet r e l p n = rw (hub_why, e, le-ltb room text_buffer l, p) (record { number = n; text = refl })

  -- what is found is told
  pub why_told : (r : ℕ) (d' : Octets) (f : Finding) → state_ok s ≡ true → text_buffer ≤ room → packet_ok packet ≡ true → f ≡ why (decode s) packet
      → Explains (told f) r d d' → Explains (hub_why s packet room) r d d'
  unfolding hub_why
  why_told r d' f e l p ef x = rw (hub_why, e, le-ltb room text_buffer l, p, ← ef) x
