-- What a host reads beside the calls: the state is as it was, and only answer 0 writes.
use Rattle.std.specs.Prelude.{ℕ, ◌≡◌, refl, true, [], ltb}
use Rattle.std.proofs.Common.{sym, ap, ◌∙◌}
use Rattle.model.specs.Lengths as Lengths
use Rattle.model.specs.Octets.{Octets}
use Rattle.model.specs.State.{PlainHub}
use Rattle.model.specs.Hub.{Outcome, Result, answer_of, keep, octets_of, state_of, within}
use Rattle.model.specs.Layout.{decode, encode}
use Rattle.model.specs.Meanings.{laid_out, reading, state_ok}
use Rattle.model.specs.Meanings as Meanings
use Rattle.model.specs.Written.{ReadAnswer, no_room, bad_state}
use Rattle.model.proofs.Model.Demand3.{state_back}
use Rattle.model.proofs.Model.Tests.{either}

-- what is written is nothing, or what the question comes to
pub reading_holds : (P : Octets → Type 0) (s : Octets) (room : ℕ) (o : Outcome) → P [] → (state_ok s ≡ true → P (octets_of o)) → P (reading s room o).octets
unfolding reading laid_out keep Meanings.bad_state within octets_of
reading_holds P s room o n f =
    either {A = Result Octets} (λ r. P r.octets) (state_ok s)
    (λ t. either {A = Outcome} (λ o. P (octets_of o)) (ltb room Lengths.reply_buffer) (λ _. n) (λ _. f t)) (λ _. n)

-- a question that leaves the hub as it was leaves the state as it was
pub reading_same : (s : Octets) (room : ℕ) (o : Outcome) → state_of (decode s).plain o ≡ (decode s).plain → (reading s room o).state ≡ s
unfolding reading laid_out keep Meanings.bad_state within state_of
reading_same s room o e =
    either {A = Result Octets} (λ r. r.state ≡ s) (state_ok s)
    (λ t. ap (λ (p : PlainHub). encode (record { plain = p; open_commands = (decode s).open_commands; waiting = (decode s).waiting })) same_within ∙ sym (state_back s t))
    (λ _. refl)
  where
    same_within : state_of (decode s).plain (within Lengths.reply_buffer room o) ≡ (decode s).plain
    same_within = either {A = Outcome} (λ o. state_of (decode s).plain o ≡ (decode s).plain) (ltb room Lengths.reply_buffer) (λ _. refl) (λ _. e)

-- it is answered 4, 5, or what the question comes to
pub reading_answered : (s : Octets) (room : ℕ) (o : Outcome) → ReadAnswer (answer_of o) (octets_of o)
    → ReadAnswer (reading s room o).answer (reading s room o).octets
unfolding reading laid_out keep Meanings.bad_state within answer_of octets_of
reading_answered s room o f =
    either {A = Result Octets} (λ r. ReadAnswer r.answer r.octets) (state_ok s)
    (λ _. either {A = Outcome} (λ o. ReadAnswer (answer_of o) (octets_of o)) (ltb room Lengths.reply_buffer) (λ _. no_room) (λ _. f)) (λ _. bad_state)
