-- The theorems about `hub_why`, over the octets of the lent state and of the packet, and about what stands in the rules for it (02, E3).
use Prim.Native.Nat.{ℕ, ◌^◌, ◌≤◌, ◌<◌}
use native.Mathlib.Omega.{arith}
use mathlib.Core.Path.{◌≡◌, refl, sym, ap, ◌∙◌}
use mathlib.Core.Bool.{Bool, true, false, not}
use mathlib.Core.List.{map}
use mathlib.Core.Logic.{◌↔◌}
use lib.ListN.{length, take}
use lib.Dec.{leb, leb→le, lit≤, ltb}
use Rattle.std.specs.Prelude.{Ok, Err}
use Rattle.model.specs.Lengths as Lengths
use Rattle.model.specs.Octets.{Octets, octet}
use Rattle.model.specs.State.{Hub}
use Rattle.model.specs.Immediate.{KeyList, records_of, repeat_check}
use Rattle.model.specs.declared.Answer.TheVariants.{BadPacket, SmallBuffer, BadState}
use Rattle.model.specs.Reasons.{status_of}
use Rattle.model.specs.declared.Place.{Place}
use Rattle.model.specs.declared.Reason.{Reason}
use Rattle.model.specs.Hub.{Result, answer_of, call, command_out, keep, outcome, packet_ok, verdict}
use Rattle.model.specs.Layout.{decode}
use Rattle.model.specs.Meanings.{bad_state, hub_command, laid_out, meaning, state_ok}
use Rattle.model.proofs.Model.Tests.{no_way}
use Rattle.model.proofs.Model.Pairs.{IsFirst, first_pair_lem, pair_if_repeated}
use Rattle.model.specs.Tables.{nowhere}
use Rattle.why.specs.declared.Objection.TheVariants.{Busy, Wrong}
use Rattle.why.specs.Findings.{Finding, status_in, why}
use Rattle.why.specs.Spelling.{decimal, spelled}
use Rattle.why.specs.Wording.{status_name, text_of}
use Rattle.why.specs.Meaning.{Explained, hub_why, text_buffer, told, untold}
use Rattle.why.proofs.Digits.{decimal_back, value_of}
use Rattle.why.proofs.Lengths.{names_status, text_short}
use Rattle.why.proofs.Reasons.{SameReason, reason_is_the_models}
use Rattle.why.proofs.Says.{Says, as_the_hub, taken_says}
use Rattle.why.proofs.Statuses.{status_taken, text_taken}

-- the order of the answers, by whether the state is well formed, the text buffer too short, and the packet one
abbrev answer : Finding → (ok short framed : Bool) → Explained
answer f a b c = elim a [
  | true ↦ elim b [ true ↦ untold SmallBuffer | false ↦ elim c [ true ↦ told f | false ↦ untold BadPacket ] ]
  | false ↦ untold BadState
]

-- where anything is told, the state is well formed, the packet is one, and what is told is what is found
pub why_answers : (s packet : Octets) (room : ℕ) → (hub_why s packet room).answer ≡ 0
    → (state_ok s ≡ true) × (packet_ok packet ≡ true) × (hub_why s packet room ≡ told (why (decode s) packet))
unfolding hub_why untold
why_answers s packet room = go (why (decode s) packet) (state_ok s) (ltb room text_buffer) (packet_ok packet)
  where
    go : (f : Finding) (a b c : Bool) → (answer f a b c).answer ≡ 0 → (a ≡ true) × (c ≡ true) × (answer f a b c ≡ told f)
    go f true false true e = (refl, refl, refl)
    go f true false false e = absurd (omega arith)
    go f true true c e = absurd (omega arith)
    go f false b c e = absurd (omega arith)

-- what a finding says of a hub's answer it says of that laid out
says_laid : (f : Finding) (r : Result Hub) → Says f r → Says f (laid_out r)
unfolding laid_out
says_laid (Ok _) r e = e
says_laid (Err Busy) r e = e
says_laid (Err (Wrong x p)) r e = e

module _ (s packet : Octets) (room reply : ℕ) (e : (hub_why s packet room).answer ≡ 0) (enough : ltb reply Lengths.reply_buffer ≡ false) where
  -- THE HUB'S OWN: what is told of a packet is what the hub answers, with room to reply. Taken: answer 0 or 1. Else: answer 2, with the status that is told.
  pub why_is_the_hubs : Says (why (decode s) packet) (hub_command s packet reply)
  unfolding hub_command meaning
  why_is_the_hubs =
      let a = why_answers s packet room e in
      rw (a.0, meaning) (says_laid (why (decode s) packet) _ (as_the_hub (decode s) packet reply enough a.1))

  -- it is told as it is found
  told_is : hub_why s packet room ≡ told (why (decode s) packet)
  told_is = (why_answers s packet room e).2

  -- The status told is the one in the hub's reply, at octet 8 in both forms of a refusal.
  pub status_is_the_hubs : (hub_command s packet reply).answer ≡ 2 → (hub_why s packet room).status ≡ octet (hub_command s packet reply).octets 8
  unfolding told
  status_is_the_hubs two = ap (λ (x : Explained). x.status) told_is ∙ go (why (decode s) packet) why_is_the_hubs
    where
      go : (f : Finding) → Says f (hub_command s packet reply) → status_in f ≡ octet (hub_command s packet reply).octets 8
      go (Ok _) q = let z : leb 2 1 ≡ true = rw two at q in no_way (sym z)
      go (Err Busy) q = sym q.1
      go (Err (Wrong x p)) q = sym q.1

  -- "would be taken" is said exactly where the hub answers 0 or 1.
  pub would_be_taken : ((hub_why s packet room).octets ≡ spelled "would be taken") ↔ (leb (hub_command s packet reply).answer 1 ≡ true)
  unfolding told
  would_be_taken =
      let t = ap (λ (x : Explained). x.octets) told_is in
      let a = text_taken (why (decode s) packet) in
      let b = taken_says (why (decode s) packet) (hub_command s packet reply) why_is_the_hubs in
      (λ q. b.0 (a.1 (sym t ∙ q)), λ q. t ∙ a.0 (b.1 q))

  -- The status told is 0 exactly there.
  pub status_zero : ((hub_why s packet room).status ≡ 0) ↔ (leb (hub_command s packet reply).answer 1 ≡ true)
  unfolding told
  status_zero =
      let t = ap (λ (x : Explained). x.status) told_is in
      let a = status_taken (why (decode s) packet) in
      let b = taken_says (why (decode s) packet) (hub_command s packet reply) why_is_the_hubs in
      (λ q. b.0 (a.1 (sym t ∙ q)), λ q. t ∙ a.0 (b.1 q))

-- Where nothing is told the answer is the hub's, 3, 4 or 5, given a reply buffer that is too short where the text buffer is.
pub refused_as_the_hub : (s packet : Octets) (room reply : ℕ) → ltb room text_buffer ≡ ltb reply Lengths.reply_buffer
    → ((hub_why s packet room).answer ≡ 0 → ⊥) → (hub_why s packet room).answer ≡ (hub_command s packet reply).answer
unfolding hub_why told untold hub_command meaning laid_out bad_state call verdict command_out keep answer_of
refused_as_the_hub s packet room reply e n = go (state_ok s) (ltb room text_buffer) (packet_ok packet) refl refl refl
  where
    go : (a b c : Bool) → state_ok s ≡ a → ltb room text_buffer ≡ b → packet_ok packet ≡ c → (hub_why s packet room).answer ≡ (hub_command s packet reply).answer
    go false b c p q r = rw (hub_why, meaning, p)
    go true true c p q r = rw (hub_why, meaning, p, q, verdict, sym e ∙ q)
    go true false false p q r = rw (hub_why, meaning, p, q, verdict, sym e ∙ q, r)
    go true false true p q r = absurd (n (rw (hub_why, p, q, r)))

-- no number is both
low : (n : ℕ) → leb 3 n ≡ true → leb n 1 ≡ true → ⊥
low n a b = let x : 3 ≤ n = leb→le 3 n (rw a tt) in let y : n ≤ 1 = leb→le n 1 (rw b tt) in omega arith

-- And where the hub answers 3, 4 or 5, so does `hub_why`.
pub refused_where_the_hub : (s packet : Octets) (room reply : ℕ) → ltb room text_buffer ≡ ltb reply Lengths.reply_buffer
    → leb 3 (hub_command s packet reply).answer ≡ true → (hub_why s packet room).answer ≡ (hub_command s packet reply).answer
unfolding hub_why untold
refused_where_the_hub s packet room reply e three = refused_as_the_hub s packet room reply e not_zero
  where
    says : (f : Finding) → Says f (hub_command s packet reply) → ⊥
    says (Ok _) q = low (hub_command s packet reply).answer three q
    says (Err Busy) q = let z : leb 3 2 ≡ true = rw q.0 at three in no_way (sym z)
    says (Err (Wrong x p)) q = let z : leb 3 2 ≡ true = rw q.0 at three in no_way (sym z)

    not_zero : (hub_why s packet room).answer ≡ 0 → ⊥
    not_zero o = go (state_ok s) (ltb room text_buffer) refl refl
      where
        go : (a b : Bool) → state_ok s ≡ a → ltb room text_buffer ≡ b → ⊥
        go a false p q = says (why (decode s) packet) (why_is_the_hubs s packet room reply o (sym e ∙ q))
        go true true p q = let z : ◌≡◌ {A = ℕ} 4 0 = rw (hub_why, p, q) at o in absurd (omega arith)
        go false true p q = let z : ◌≡◌ {A = ℕ} 5 0 = rw (hub_why, p) at o in absurd (omega arith)

-- The reason found is the one that the model refuses the packet for, Busy aside, and not another of the same status.
pub reason_is_the_hubs : (h : Hub) (packet : Octets) (room : ℕ) → ltb room Lengths.reply_buffer ≡ false → packet_ok packet ≡ true
    → SameReason (why h packet) (outcome (verdict h.plain room packet))
reason_is_the_hubs = reason_is_the_models

-- No text is longer than the shortest buffer that is taken.
pub no_text_longer : (s packet : Octets) (room : ℕ) → length (hub_why s packet room).octets ≤ text_buffer
unfolding hub_why told untold
no_text_longer s packet room = go (state_ok s) (ltb room text_buffer) (packet_ok packet)
  where
    go : (a b c : Bool) → length (answer (why (decode s) packet) a b c).octets ≤ text_buffer
    go true false true = text_short (why (decode s) packet)
    go true false false = lit≤ tt
    go true true c = lit≤ tt
    go false b c = lit≤ tt

-- A refusal is told by the name of its status first.
pub status_first : (r : Reason) (p : Place) → take (length (spelled (status_name (status_of r)))) (text_of (Err (Wrong r p))) ≡ spelled (status_name (status_of r))
status_first = names_status

-- A number of 64 bits in a place is told whole.
pub number_told : (n : ℕ) → n < 10 ^ 20 → value_of (decimal n) ≡ n
number_told = decimal_back

-- The check of repeats in any list of keys: the place is the first two records that name one device, by the lower one and then by the higher one.
pub first_pair_named : (l : KeyList) (ps : Octets) → IsFirst (map l.rule.key (records_of l ps)) 0
    (repeat_check (map l.rule.key (records_of l ps))).place
first_pair_named l ps = first_pair_lem 0 (map l.rule.key (records_of l ps))

-- Two are named exactly where the check fails.
pub pair_named : (l : KeyList) (ps : Octets)
    → (repeat_check (map l.rule.key (records_of l ps))).fails ≡ not (nowhere (repeat_check (map l.rule.key (records_of l ps))).place)
pair_named l ps = ap not (sym (pair_if_repeated 0 (map l.rule.key (records_of l ps))))
