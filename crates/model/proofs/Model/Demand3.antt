-- Demand 3 over the octets of the lent state: from the model's states (Commute) by decode and encode, since every call keeps a state well formed.
use Rattle.std.proofs.Common.{arith, ap}
use Rattle.std.specs.Prelude.{◌≡◌, refl, true, List, [], ◌∷◌, length, eqb}
use Rattle.std.proofs.Math.Option.{some}
use Rattle.model.specs.Lengths as Lengths
use Rattle.model.specs.Octets.{Octets, bytes}
use Rattle.model.specs.State.{Hub, PlainHub, idle}
use Rattle.model.specs.Reading.{Judged, acceptable, either_version, faulty, judge, load, state_in}
use Rattle.model.specs.Hub.{Call, call, call_plain, plain_call, state_of}
use Rattle.model.specs.WellFormed.{call_wide, calls_wide, plain_ok, well_formed}
use Rattle.model.specs.Layout.{cleared, decode, encode}
use Rattle.model.specs.Meanings.{Loaded, hub_load, laid_out, laid_out_plain, leaves, load_meaning, loaded_into, meaning, plain_meaning, state_ok}
use Rattle.model.specs.Demand3.{Agrees, Entry, Left, Pending, after, entry, no_pending, reduce, sort, trace}
use Rattle.model.proofs.Model.Commute.{demand3_model, step}
use Rattle.model.proofs.Model.Invariant.{Inv, start}
use Rattle.model.proofs.Model.Decode.{decode_encode}
use Rattle.model.proofs.Model.Layout.{clears, encode_length}
use Rattle.model.proofs.Model.Load.{fault_number_lem, load_ok}
use Rattle.model.proofs.Model.Stays.{call_stays, left_ok, next_wide, pending_ok, pending_packet_ok, plain_stays, reduce_wide, stays, well}
use Rattle.model.proofs.Model.Tables.{same_eq, same_refl}
use Rattle.model.proofs.Model.Tests.{and_true, both, either, equal}

-- 1. One call ---------------------------------------------------------------------------------------------------------------------------------

-- what encodes a well-formed hub is a well-formed state
pub encode_ok : (h : Hub) → well_formed h ≡ true → state_ok (encode h) ≡ true
unfolding state_ok well_formed
encode_ok h e =
    rw (encode_length h (and_true (plain_ok h.plain) _ e).0, decode_encode h e) (both e (same_refl (encode h)))

-- a well-formed state has the one length
pub state_long : (s : Octets) → state_ok s ≡ true → length s ≡ Lengths.state
unfolding state_ok
state_long s e = equal _ _ (and_true (eqb (length s) Lengths.state) _ e).0

-- a well-formed state means a well-formed hub
pub state_well : (s : Octets) → state_ok s ≡ true → well_formed (decode s) ≡ true
unfolding state_ok
state_well s e = (and_true (well_formed (decode s)) _ (and_true (eqb (length s) Lengths.state) _ e).1).0

-- a well-formed state is the encoding of the hub that it means
pub state_back : (s : Octets) → state_ok s ≡ true → s ≡ encode (decode s)
unfolding state_ok
state_back s e = same_eq s (encode (decode s)) (and_true (well_formed (decode s)) _ (and_true (eqb (length s) Lengths.state) _ e).1).1

-- a well-formed plain hub with nothing under way is well formed
pub idle_ok : (p : PlainHub) → plain_ok p ≡ true → well_formed (idle p) ≡ true
unfolding after calls_wide
idle_ok p e = stays p [] refl e

-- on the state of a well-formed hub, a call means what the model says, laid out
pub meaning_is : (h : Hub) (c : Call) → well_formed h ≡ true → meaning (encode h) c ≡ laid_out (call h c)
unfolding meaning
meaning_is h c e = rw (encode_ok h e, meaning, decode_encode h e)

-- the same for the at-once hub
pub plain_meaning_is : (p : PlainHub) (c : Call) → plain_ok p ≡ true → plain_meaning (encode (idle p)) c ≡ laid_out_plain (plain_call p c)
unfolding plain_meaning idle
plain_meaning_is p c e = rw (encode_ok (idle p) (idle_ok p e), plain_meaning, decode_encode (idle p) (idle_ok p e))

-- 2. Lists of calls ---------------------------------------------------------------------------------------------------------------------------

-- over octets a list is told what it is told over the model's states
same_trace : (calls : List Call) (h : Hub) (k : Pending) → Inv h k → pending_ok k ≡ true → calls_wide calls ≡ true → plain_ok h.plain ≡ true
    → trace meaning (encode h) calls ≡ trace call h calls
unfolding trace calls_wide laid_out
same_trace [] h k inv g w e = refl
same_trace (c ∷ cs) h k inv g w e =
    let a = and_true (call_wide c) _ w in
    rw (meaning_is h c (well h k inv g e)) (ap {B = List Entry} (λ es. entry c (call h c).answer (call h c).octets ∷ es)
    (same_trace cs (call h c).state (sort k (entry c (call h c).answer (call h c).octets)).pending (step h k inv c).inv
    (next_wide h k c g a.0) a.1 (call_stays h e k inv g c a.0)))

-- over octets a list ends in the encoding of where it ends over the model's states
same_end : (calls : List Call) (h : Hub) (k : Pending) → Inv h k → pending_ok k ≡ true → calls_wide calls ≡ true → plain_ok h.plain ≡ true
    → after meaning (encode h) calls ≡ encode (after call h calls)
unfolding after calls_wide laid_out
same_end [] h k inv g w e = refl
same_end (c ∷ cs) h k inv g w e =
    let a = and_true (call_wide c) _ w in
    rw (meaning_is h c (well h k inv g e))
    (same_end cs (call h c).state (sort k (entry c (call h c).answer (call h c).octets)).pending (step h k inv c).inv (next_wide h k c g a.0)
    a.1 (call_stays h e k inv g c a.0))

-- so it is from any well-formed state with nothing under way
pub same_run : (p : PlainHub) (calls : List Call) → calls_wide calls ≡ true → plain_ok p ≡ true
    → after meaning (encode (idle p)) calls ≡ encode (after call (idle p) calls)
unfolding idle no_pending pending_ok pending_packet_ok
same_run p calls w e = same_end calls (idle p) no_pending (start p) refl w e

-- the at-once hub agrees over octets where it agrees over the model's states
same_agrees : (ls : List Left) (p q : PlainHub) → plain_ok p ≡ true → left_ok ls ≡ true → Agrees plain_call p ls q
    → Agrees plain_meaning (encode (idle p)) ls (encode (idle q))
unfolding Agrees left_ok laid_out_plain plain_call
same_agrees [] p q e w a = ap (λ (x : PlainHub). encode (idle x)) a
same_agrees (l ∷ ls) p q e w a =
    let b = and_true (call_wide l.call) _ w in
    rw (plain_meaning_is p l.call e) (a.0, a.1, same_agrees ls (state_of p (call_plain p l.call)) q (plain_stays p e l.call b.0) b.1 a.2)

-- the hub at the end is well formed
ended : (p : PlainHub) (calls : List Call) → calls_wide calls ≡ true → plain_ok p ≡ true → plain_ok (after call (idle p) calls).plain ≡ true
unfolding well_formed
ended p calls w e = (and_true (plain_ok (after call (idle p) calls).plain) _ (stays p calls w e)).0

-- from any well-formed state with nothing under way
from_idle : (p : PlainHub) (calls : List Call) → calls_wide calls ≡ true → plain_ok p ≡ true
    → Agrees plain_meaning (encode (idle p)) (reduce no_pending (trace meaning (encode (idle p)) calls)) (cleared (after meaning (encode (idle p)) calls))
unfolding idle no_pending pending_ok pending_packet_ok
from_idle p calls w e =
    rw (
      same_trace calls (idle p) no_pending (start p) refl w e,
      same_run p calls w e,
      clears
          (after call (idle p) calls) (ended p calls w e),
    )
    (same_agrees (reduce no_pending (trace call (idle p) calls)) p (after call (idle p) calls).plain e (reduce_wide calls (idle p) no_pending refl w)
    (demand3_model p calls))

-- 3. From load --------------------------------------------------------------------------------------------------------------------------------

-- what load did when it answered 0: it took the image, and the state is that of the hub it gives
pub record Taken (o : Octets) (r : Loaded) : Type 0 where
  pub hub : PlainHub
  pub loads : load o ≡ some hub
  pub state : r.state ≡ encode (idle hub)

-- the same, by what the image gave
taken_into : (s o : Octets) (x : Judged) → judge either_version o ≡ x → (loaded_into s x).answer ≡ 0 → Taken o (loaded_into s x)
unfolding leaves loaded_into load state_in
taken_into s o (faulty k at) l e = absurd (omega (arith, fault_number_lem k))
taken_into s o (acceptable p) l e = record { hub = p; loads = rw l; state = refl }

-- the same of load, by the length of the state buffer
pub taken : (s o : Octets) → (hub_load s o).answer ≡ 0 → Taken o (hub_load s o)
unfolding hub_load load_meaning leaves
taken s o = either {A = Loaded} (λ r. r.answer ≡ 0 → Taken o r) (eqb (length s) Lengths.state)
    (λ _ e. taken_into s o (judge either_version o) refl e)
    (λ _ e. absurd (omega arith))

-- DEMAND 3 FOR LISTS WITHOUT LUMPS (with lumps: Proof/Line)
pub demand3_direct : (buffer image : Octets) (calls : List Call) → bytes image ≡ true → calls_wide calls ≡ true → (hub_load buffer image).answer ≡ 0
    → Agrees plain_meaning (hub_load buffer image).state (reduce no_pending (trace meaning (hub_load buffer image).state calls)) (cleared (after meaning (hub_load buffer image).state calls))
demand3_direct buffer image calls b w e =
    let t = taken buffer image e in
    rw t.state (from_idle t.hub calls w (load_ok image t.hub b t.loads))
