-- Lists of calls and lumps: with a packet in place of the lumps that made it, a list is told what the list of its calls and packets is told, and ends in the
-- same state, waiting octets aside. So the claims over lists of calls hold over lists of calls and lumps: demand 3 too.
use Rattle.std.specs.Prelude.{ℕ, ◌≡◌, refl, true, false, List, [], ◌∷◌, ◌++◌, length, take, drop, eqb, leb}
use Rattle.std.proofs.Common.{arith, sym, ap, ◌∙◌, append_assoc, append-nil, length-append, drop_at, take_at, eq-eqb, ne_eqb}
use Rattle.std.proofs.Math.Seq.{take-length}
use Rattle.model.specs.Octets.{Octets, bytes, joined, u16}
use Rattle.model.specs.State.{Hub, Waiting, idle, nothing_waits, with_waiting}
use Rattle.model.specs.Tables.{every}
use Rattle.model.specs.Hub.{Call, Result, call, command, packet_ok}
use Rattle.model.specs.Stream.{HostCall, Streamed, direct, kept_count, length_said, stream, stream_out, waiting_at}
use Rattle.model.specs.WellFormed.{call_wide, calls_wide, host_call_wide, host_calls_wide, plain_ok, waiting_ok, well_formed}
use Rattle.model.specs.Layout.{cleared, decode, encode, line_cleared}
use Rattle.model.specs.Meanings.{hub_load, laid_out, meaning, state_ok, stream_laid_out, stream_meaning}
use Rattle.model.specs.Demand3.{Demand3, Entry, HostEntry, after, assembled, entry, host_after, host_next, host_trace, lump, made, trace}
use Rattle.model.specs.Cutting.{CuttingDoesNotMatter, Told, by_packets, calls_of, taken_octets}
use Rattle.model.proofs.Model.Decode.{decode_encode}
use Rattle.model.proofs.Model.Demand3.{demand3_direct, encode_ok, meaning_is, state_back, state_well, taken}
use Rattle.model.proofs.Model.Keeps.{keeps_hub, load_state, well_fit}
use Rattle.model.proofs.Model.Layout.{clears, line_clears}
use Rattle.model.proofs.Model.Load.{load_ok}
use Rattle.model.proofs.Model.Lump.{Step, acts, aside, packet_small, small, step, waiting_in, waits}
use Rattle.model.proofs.Model.Tables.{bytes_take}
use Rattle.model.proofs.Model.Tests.{and_true, both}
use Rattle.model.proofs.Model.WaitingOctets.{Short, bytes_append, packet_said, said_append, six_said, waiting_ok_lem, waiting_of}

-- 1. One call, one lump -------------------------------------------------------------------------------------------------------------------------

-- with other waiting octets that are well formed a hub stays well formed
pub well_waiting : (h : Hub) (w : Waiting) → well_formed h ≡ true → waiting_ok w ≡ true → well_formed (with_waiting h w) ≡ true
unfolding well_formed with_waiting
well_waiting h w e o = let f = well_fit h e in both f.plain (both f.open_commands o)

-- nothing is what waits after no octets
nothing_waits_lem : nothing_waits ≡ waiting_of []
unfolding nothing_waits waiting_of waiting_at kept_count length_said u16
nothing_waits_lem = refl

-- no octets are short of a packet
none_short : Short []
unfolding length_said
none_short = omega arith

-- on the state of a well-formed hub, a lump means what the model says, laid out
pub stream_is : (h : Hub) (room : ℕ) (o : Octets) → well_formed h ≡ true → stream_meaning (encode h) room o ≡ stream_laid_out (stream_out h room o)
unfolding stream_meaning
stream_is h room o e = rw (encode_ok h e, stream_meaning, decode_encode h e)

-- a call with other waiting octets, over the lent octets
pub call_is : (g : Hub) (w : Waiting) (c : Call) → well_formed (with_waiting g w) ≡ true → meaning (encode (with_waiting g w)) c ≡ laid_out (waiting_in w (call g c))
call_is g w c e = meaning_is (with_waiting g w) c e ∙ ap laid_out (aside g w c)

-- a call keeps the hub well formed, waiting octets aside
pub next_well : (g : Hub) (c : Call) → well_formed (with_waiting g nothing_waits) ≡ true → call_wide c ≡ true
    → well_formed (with_waiting (call g c).state nothing_waits) ≡ true
unfolding waiting_in
next_well g c e w = rw (aside g nothing_waits c) at (keeps_hub (with_waiting g nothing_waits) c e w)

-- 2. Lists ----------------------------------------------------------------------------------------------------------------------------------------

-- the lumps of a list make packets: where one was finished, what was taken is a packet
data Parsed : Octets → List HostEntry → Type 0 where
  -- the end, perhaps within a packet
  over : {before : Octets} → Parsed before []
  -- a call
  called : {before : Octets} {e : Entry} {es : List HostEntry} → Parsed before es → Parsed before (made e ∷ es)
  -- a lump that finished none
  more : {before o w : Octets} {room n a : ℕ} {es : List HostEntry} → leb a 2 ≡ false → Short (before ++ take n o) → Parsed (before ++ take n o) es
      → Parsed before (lump room o n a w ∷ es)
  -- a lump that finished one
  packet : {before o w : Octets} {room n a : ℕ} {es : List HostEntry} → leb a 2 ≡ true → packet_ok (before ++ take n o) ≡ true → Parsed [] es
      → Parsed before (lump room o n a w ∷ es)

-- from state t on (nothing waits in it) the entries are what their calls are told, and these end in `end`, waiting octets aside
record Framed (t : Octets) (es : List Entry) (end : Octets) : Type 0 where
  told : Told t es (line_cleared end)
  clear : cleared end ≡ cleared (after meaning t (calls_of es))
  wide : calls_wide (calls_of es) ≡ true

-- one call more at the front
framed_call : (t : Octets) (c : Call) (r : Result Octets) (es : List Entry) (end : Octets) → meaning t c ≡ r → call_wide c ≡ true → Framed r.state es end
    → Framed t (entry c r.answer r.octets ∷ es) end
unfolding trace after calls_of calls_wide
framed_call t c r es end e w f = record {
  told = record {
    entries = rw e (ap {B = List Entry} (λ (x : List Entry). entry c r.answer r.octets ∷ x) f.told.entries);
    state = f.told.state ∙ ap (λ (x : Result Octets). after meaning x.state (calls_of es)) (sym e);
  };
  clear = f.clear ∙ ap (λ (x : Result Octets). cleared (after meaning x.state (calls_of es))) (sym e);
  wide = both w f.wide;
}

-- a list of host entries from t on, with these octets taken before
record Framing (t before : Octets) (es : List HostEntry) (end : Octets) : Type 0 where
  framed : Framed t (assembled before es) end
  parsed : Parsed before es

-- a lump that finished a packet is that packet's command call
framing_packet : (t before : Octets) (room n : ℕ) (o : Octets) (r : Result Octets) (es : List HostEntry) (end : Octets)
    → meaning t (command room (before ++ take n o)) ≡ r
    → leb r.answer 2 ≡ true → packet_ok (before ++ take n o) ≡ true → bytes (before ++ take n o) ≡ true → Framing r.state [] es end
    → Framing t before (lump room o n r.answer r.octets ∷ es) end
unfolding assembled call_wide
framing_packet t before room n o r es end e l k w f = record {
  framed = rw (l, assembled) (framed_call t (command room (before ++ take n o)) r (assembled [] es) end e w f.framed);
  parsed = packet l k f.parsed;
}

-- a lump that finished none is struck
framing_more : (t before : Octets) (room n a : ℕ) (o w : Octets) (es : List HostEntry) (end : Octets) → leb a 2 ≡ false → Short (before ++ take n o)
    → Framing t (before ++ take n o) es end → Framing t before (lump room o n a w ∷ es) end
unfolding assembled
framing_more t before room n a o w es end l h f = record { framed = rw (l, assembled) f.framed; parsed = more l h f.parsed }

-- what is to be shown of a list: from every hub g and all octets taken before
abbrev Frames : List HostCall → Type 0
Frames cs = (g : Hub) (before : Octets) → Short before → bytes before ≡ true → well_formed (with_waiting g nothing_waits) ≡ true
    → Framing (encode (with_waiting g nothing_waits)) before (host_trace meaning stream_meaning (encode (with_waiting g (waiting_of before))) cs)
    (host_after meaning stream_meaning (encode (with_waiting g (waiting_of before))) cs)

-- a lump, by what it comes to
frames_lump : (cs : List HostCall) → Frames cs → (g : Hub) (room : ℕ) (before o : Octets) → Short before → bytes before ≡ true → bytes o ≡ true
    → well_formed (with_waiting g nothing_waits) ≡ true → (r : Streamed Hub) → Step g room before o r
    → Framing (encode (with_waiting g nothing_waits)) before
    (lump room o r.taken r.result.answer r.result.octets ∷ host_trace meaning stream_meaning (encode r.result.state) cs)
    (host_after meaning stream_meaning (encode r.result.state) cs)
unfolding laid_out waiting_in bytes call_wide
frames_lump cs ih g room before o h b wo e r (small t) = framing_more _ before room 0 4 o [] _ _ refl (rw append-nil h) (rw append-nil (ih g before h b e))
frames_lump cs ih g room before o h b wo e r (waits k) =
    framing_more _ before room (length o) 9 o [] _ _ refl (rw (take-length o) k) (rw (take-length o) (ih g (before ++ o) k (bytes_append before o b wo) e))
frames_lump cs ih g room before o h b wo e r (acts n z m t k) =
    let c : Call = command room (before ++ take n o) in
    let w : bytes (before ++ take n o) ≡ true = bytes_append before (take n o) b (bytes_take n o wo) in
    framing_packet _ before room n o (laid_out (waiting_in nothing_waits (call g c))) _ _ (call_is g nothing_waits c e) (packet_small g room (before ++ take n o) t k) k w
    (rw (← nothing_waits_lem) at (ih (call g c).state [] none_short refl (next_well g c e w)))

-- EVERY LIST OF CALLS AND LUMPS, from every well-formed hub and all octets taken before
frames : (cs : List HostCall) → host_calls_wide cs ≡ true → Frames cs
unfolding host_trace host_next host_after host_calls_wide host_call_wide assembled trace after calls_of calls_wide laid_out stream_laid_out waiting_in with_waiting
frames [] w g before h b e =
    let p : plain_ok g.plain ≡ true = (well_fit (with_waiting g nothing_waits) e).plain in
    record {
      framed = record {
        told = record { entries = refl; state = line_clears (with_waiting g (waiting_of before)) p };
        clear = clears (with_waiting g (waiting_of before)) p ∙ sym (clears (with_waiting g nothing_waits) p);
        wide = refl;
      };
      parsed = over;
    }
frames (direct c ∷ cs) w g before h b e =
    let a = and_true (call_wide c) _ w in
    let k : well_formed (with_waiting g (waiting_of before)) ≡ true = well_waiting (with_waiting g nothing_waits) (waiting_of before) e (waiting_ok_lem before b h) in
    let f = frames cs a.1 (call g c).state before h b (next_well g c e a.0) in
    rw (host_next, call_is g (waiting_of before) c k) (record {
      framed = framed_call _ c (laid_out (waiting_in nothing_waits (call g c))) _ _ (call_is g nothing_waits c e) a.0 f.framed;
      parsed = called f.parsed;
    })
frames (stream room o ∷ cs) w g before h b e =
    let a = and_true (bytes o) _ w in
    let k : well_formed (with_waiting g (waiting_of before)) ≡ true = well_waiting (with_waiting g nothing_waits) (waiting_of before) e (waiting_ok_lem before b h) in
    rw (host_next, stream_is (with_waiting g (waiting_of before)) room o k)
    (frames_lump cs (frames cs a.1) g room before o h b a.0 e _ (step g room before o b a.0 h))

-- nothing waiting is well formed
pub nothing_ok : waiting_ok nothing_waits ≡ true
unfolding bytes
nothing_ok = rw nothing_waits_lem (waiting_ok_lem [] refl none_short)

-- from a well-formed state with nothing waiting
starts : (s : Octets) (calls : List HostCall) → state_ok s ≡ true → line_cleared s ≡ s → host_calls_wide calls ≡ true
    → Framing s [] (host_trace meaning stream_meaning s calls) (host_after meaning stream_meaning s calls)
unfolding bytes
starts s calls e z w =
    let k = state_well s e in
    let q : s ≡ encode (with_waiting (decode s) nothing_waits) = sym z ∙ ap line_cleared (state_back s e)
    ∙ line_clears (decode s) (well_fit (decode s) k).plain in
    rw (← nothing_waits_lem, ← q) at (frames calls w (decode s) [] none_short refl (well_waiting (decode s) nothing_waits k nothing_ok))

-- 3. Demand 3 ---------------------------------------------------------------------------------------------------------------------------------------

-- nothing waits in a loaded state
loaded_clear : (buffer image : Octets) → bytes image ≡ true → (hub_load buffer image).answer ≡ 0
    → line_cleared (hub_load buffer image).state ≡ (hub_load buffer image).state
unfolding idle with_waiting
loaded_clear buffer image b e = let t = taken buffer image e in rw t.state (line_clears (idle t.hub) (load_ok image t.hub b t.loads))

-- DEMAND 3, with lumps in the list
pub demand3 : Demand3
demand3 buffer image calls b w e =
    let s : Octets = (hub_load buffer image).state in
    let f = (starts s calls (load_state buffer image b e) (loaded_clear buffer image b e) w).framed in
    let es : List Entry = assembled [] (host_trace meaning stream_meaning s calls) in
    rw f.clear (rw (← f.told.entries) at (demand3_direct buffer image (calls_of es) b f.wide e))

-- 4. Cutting does not matter ----------------------------------------------------------------------------------------------------------------------

-- of two packets at the front of the same octets each is the other
unique : (p x a y : Octets) → packet_ok p ≡ true → packet_ok a ≡ true → p ++ x ≡ a ++ y → (p ≡ a) × (x ≡ y)
unique p x a y kp ka e =
    let np = packet_said p kp in
    let na = packet_said a ka in
    let sp : length_said (p ++ x) ≡ length p = said_append p x (omega (arith, six_said p)) ∙ sym np in
    let sa : length_said (a ++ y) ≡ length a = said_append a y (omega (arith, six_said a)) ∙ sym na in
    let n : length p ≡ length a = sym sp ∙ ap length_said e ∙ sa in (
      sym (take_at p x (length a) n) ∙ ap (λ (o : Octets). take (length a) o) e ∙ take_at a y (length a) refl,
      sym (drop_at p x (length a) n) ∙ ap (λ (o : Octets). drop (length a) o) e ∙ drop_at a y (length a) refl,
    )

-- octets taken go over to those before
regroup : (b x t rest : Octets) → b ++ ((x ++ t) ++ rest) ≡ (b ++ x) ++ (t ++ rest)
regroup b x t rest = ap (λ (o : Octets). b ++ o) (append_assoc x t rest) ∙ sym (append_assoc b x (t ++ rest))

-- octets that are short of a packet are not as many as the packet has that they begin
short_length : (x y p z : Octets) → Short x → packet_ok p ≡ true → x ++ y ≡ p ++ z → (length x ≡ length p → ⊥)
short_length x y p z h k e n =
    let q : x ≡ p = sym (take_at x y (length p) n) ∙ ap (λ (o : Octets). take (length p) o) e ∙ take_at p z (length p) refl in
    let s : length_said x ≡ length_said p = ap length_said q in
    absurd (omega (arith, packet_said p k))

-- at a lump with which no packet is there no packet stands
packets_more : (before : Octets) (ps : List Octets) (room n a : ℕ) (o w : Octets) (es : List HostEntry) (y : Octets) → Short (before ++ take n o)
    → every packet_ok ps ≡ true → (before ++ take n o) ++ y ≡ joined ps → by_packets before ps (lump room o n a w ∷ es) ≡ by_packets (before ++ take n o) ps es
unfolding by_packets every joined
packets_more before [] room n a o w es y h k e = refl
packets_more before (p ∷ ps) room n a o w es y h k e =
    let f : eqb (length (before ++ take n o)) (length p) ≡ false
    = ne_eqb (length (before ++ take n o)) (length p) (short_length (before ++ take n o) y p (joined ps) h (and_true (packet_ok p) _ k).0 e) in
    rw (f, by_packets)

-- at a lump with which one is there that stands
packets_next : (before p : Octets) (ps : List Octets) (room n a : ℕ) (o w : Octets) (es : List HostEntry) → length (before ++ take n o) ≡ length p
    → by_packets before (p ∷ ps) (lump room o n a w ∷ es) ≡ entry (command room p) a w ∷ by_packets [] ps es
unfolding by_packets
packets_next before p ps room n a o w es e = rw (eq-eqb (length (before ++ take n o)) (length p) e, by_packets)

-- the packets of the stream are those that the lumps make
same_packets : (before : Octets) (es : List HostEntry) (ps : List Octets) (rest : Octets) → Parsed before es → every packet_ok ps ≡ true
    → before ++ (taken_octets es ++ rest) ≡ joined ps
    → by_packets before ps es ≡ assembled before es
unfolding by_packets assembled taken_octets every joined
same_packets before es ps rest over k j = refl
same_packets before es ps rest (called {e = e} f) k j = ap {B = List Entry} (λ (x : List Entry). e ∷ x) (same_packets before _ ps rest f k j)
same_packets before es ps rest (more {o = o} {w = w} {room = room} {n = n} {a = a} {es = fs} l h f) k j =
    let e : (before ++ take n o) ++ (taken_octets fs ++ rest) ≡ joined ps = sym (regroup before (take n o) (taken_octets fs) rest) ∙ j in
    rw (packets_more before ps room n a o w fs (taken_octets fs ++ rest) h k e, l, assembled) (same_packets (before ++ take n o) fs ps rest f k e)
same_packets before es [] rest (packet {o = o} {n = n} {es = fs} l a f) k j =
    let b : Octets = before ++ take n o in
    let z : length (b ++ (taken_octets fs ++ rest)) ≡ 0 = ap (λ (x : Octets). length x) (sym (regroup before (take n o) (taken_octets fs) rest) ∙ j) in
    absurd (omega (arith, length-append b (taken_octets fs ++ rest), packet_said b a, six_said b))
same_packets before es (p ∷ ps) rest (packet {o = o} {w = w} {room = room} {n = n} {a = c} {es = fs} l a f) k j =
    let b : Octets = before ++ take n o in
    let h = and_true (packet_ok p) _ k in
    let u = unique p (joined ps) b (taken_octets fs ++ rest) h.0 a (sym j ∙ regroup before (take n o) (taken_octets fs) rest) in
    rw (packets_next before p ps room n c o w fs (ap length (sym u.0)), l, assembled, u.0)
    (ap {B = List Entry} (λ (x : List Entry). entry (command room b) c w ∷ x) (same_packets [] fs ps rest f h.1 (sym u.1)))

-- WHERE THE LINE IS CUT MAKES NO DIFFERENCE
pub cutting : CuttingDoesNotMatter
cutting s calls packets rest e z w k j =
    let f = starts s calls e z w in
    rw (same_packets [] (host_trace meaning stream_meaning s calls) packets rest f.parsed k j) f.framed.told
