-- The lent state of a well-formed hub has one length, and clearing open commands and waiting octets in it gives the state of the plain hub.
use Rattle.std.specs.Prelude.{ℕ, ◌+◌, ◌*◌, ◌≡◌, refl, Bool, true, ◌&&◌, List, [], ◌∷◌, ◌++◌, map, length, get_or, drop, replicate, eqb}
use Rattle.std.proofs.Common.{arith, mul-suc, mul-zero, sym, ap, ◌∙◌, append_assoc, length-append, length-take, take_at, drop_at, length-take-le}
use Rattle.std.proofs.Math.Option.{Option, none, some}
use Rattle.std.proofs.lemmas.List.{length-replicate}
use Rattle.model.specs.Lengths as Lengths
use Rattle.model.specs.Octets.{Octets, joined, le16, le32}
use Rattle.model.specs.Advertising.{Advertising, Schedule}
use Rattle.model.specs.State.{Controller, Hardware, Hub, OpenCommand, Table, Waiting, idle, nothing_waits, settings_of, with_waiting}
use Rattle.model.specs.Reasons.{passes}
use Rattle.model.specs.Tables.{TableRule, blocked_rule, device_rule, entries, every, identity_key_rule, link_key_rule, long_term_key_rule, record_ok}
use Rattle.model.specs.Tables.{table_rules, uuid_rule}
use Rattle.model.specs.Commands.{words}
use Rattle.model.specs.WellFormed.{advertising_ok, controller_ok, plain_ok, slot_is_ok, slots_ok, table_ok, tables_ok}
use Rattle.model.specs.Layout.{block, blocks, clear_block, clear_blocks, cleared, controller_part, encode, hardware_part, open_part, region, regions}
use Rattle.model.specs.Layout.{advertising_part, data_part, line_cleared, schedule_part, settings_part, slot_octets, slots, waiting_part}
use Rattle.model.proofs.Model.Advertising.{five_each}
use Rattle.model.proofs.Model.Parts.{controller_fit, lengths}
use Rattle.model.proofs.Model.Stays.{plain_fit}
use Rattle.model.proofs.Model.Tables.{table_fit}
use Rattle.model.proofs.Model.Tests.{and_true, equal, no_way}

-- 1. The length -----------------------------------------------------------------------------------------------------------------------------

-- the length of the slots, where the records have the size
pub length_slots : (size : ℕ) (g : Octets → Bool) (t : Table) → every (λ r. eqb (length r) size && g r) (entries t) ≡ true
    → length (slots size t) ≡ size * length t
unfolding slots slot_octets entries every
length_slots size g [] e = sym (mul-zero size)
length_slots size g (none ∷ t) e =
    length-append (replicate size 0) (slots size t) ∙ omega (arith, length-replicate {A = ℕ} size 0, length_slots size g t e, mul-suc size (length t))
length_slots size g (some r ∷ t) e =
    let a = and_true (eqb (length r) size && g r) _ e in
    let n : length r ≡ size = equal _ _ (and_true (eqb (length r) size) _ a.0).0 in
    length-append r (slots size t) ∙ omega (arith, length_slots size g t a.1, mul-suc size (length t))

-- the octets of the tables of these rules
sizes : List TableRule → ℕ
sizes [] = 0
sizes (u ∷ us) = 4 + u.size * 32 + sizes us

-- tables that keep their rules take so many
length_regions : (f : Hardware) (us : List TableRule) (ts : List Table) → tables_ok f us ts ≡ true → length (regions us ts) ≡ sizes us
unfolding regions sizes tables_ok region le32 record_ok
length_regions f [] ts e = refl
length_regions f (u ∷ us) [] e = no_way (sym e)
length_regions f (u ∷ us) (t ∷ ts) e =
    let a = and_true (table_ok u f t) _ e in
    let h = table_fit u f t a.0 in
    let n : length (slots u.size t) ≡ u.size * 32 = length_slots u.size (λ r. passes (u.checks r)) t h.each ∙ rw h.slots in
    omega (arith, length-append (slots u.size t) (regions us ts), length_regions f us ts a.1)

-- the six tables take 3,736
pub length_tables : (f : Hardware) (ts : List Table) → tables_ok f table_rules ts ≡ true → length (regions table_rules ts) ≡ 3736
unfolding sizes table_rules uuid_rule link_key_rule long_term_key_rule identity_key_rule blocked_rule device_rule
length_tables f ts e = length_regions f table_rules ts e

-- numbers of two octets
pub length_words : (ns : List ℕ) → length (words ns) ≡ 2 * length ns
unfolding words le16
length_words [] = refl
length_words (n ∷ ns) = omega (arith, length_words ns)

-- data of one instance take 32
pub length_data : (o : Octets) → length (data_part o) ≡ 32
unfolding data_part
length_data o = simp (length-take, length-append) (omega (arith, length-replicate {A = ℕ} 31 0))

-- the data of all instances
pub length_data_list : (os : List Octets) → length (joined (map data_part os)) ≡ 32 * length os
unfolding joined
length_data_list [] = refl
length_data_list (o ∷ os) = length-append (data_part o) (joined (map data_part os)) ∙ omega (arith, length_data o, length_data_list os)

-- a schedule takes 23 octets
pub length_schedule : (s : Schedule) → length s.durations ≡ 5 → length s.timeouts ≡ 5 → length (schedule_part s) ≡ 23
unfolding schedule_part le16
length_schedule s n m = simp length-append (omega (arith, length_words s.durations, length_words s.timeouts))

-- advertising takes 343 octets
pub length_advertising : (l w : Bool) (a : Advertising) → advertising_ok l w a ≡ true → length (advertising_part a) ≡ 343
unfolding advertising_part
length_advertising l w a e =
    let f = five_each l w a e in
    simp length-append
    (omega
    (arith, length_schedule a.schedule f.durations f.timeouts, length_data_list a.adv_data, length_data_list a.scan_rsp, f.adv_data, f.scan_rsp))

-- a controller takes 4,366 octets
pub length_controller : (c : Controller) → controller_ok c ≡ true → length (controller_part c) ≡ 4366
unfolding controller_part hardware_part settings_part settings_of le16 le32
length_controller c e =
    let h = controller_fit c e in
    let n = lengths c e in
    let t : length (regions table_rules c.host.tables) ≡ 3736 = length_tables c.radio.hardware c.host.tables h.tables in
    simp length-append (omega (arith, n.public_address, n.static_address, n.name, length_advertising _ _ c.host.advertising h.advertising))

-- an open command takes 5, and so does none
pub length_open : (o : Option OpenCommand) → length (open_part o) ≡ 5
unfolding open_part le16
length_open none = refl
length_open (some o) = simp (length-take, length-append) (omega arith)

-- a block takes 4,372, and so does an absent one
pub length_block : (s : Option Controller) (o : Option OpenCommand) → slot_is_ok s ≡ true → length (block s o) ≡ Lengths.block
unfolding block slot_is_ok
length_block none o e = length-replicate {A = ℕ} Lengths.block 0
length_block (some c) o e = simp length-append (omega (arith, length_open o, length_controller c e))

-- the length of all blocks
pub length_blocks : (ss : List (Option Controller)) (os : List (Option OpenCommand)) → slots_ok ss ≡ true → length (blocks ss os) ≡ Lengths.block * length ss
unfolding blocks slots_ok
length_blocks [] os e = refl
length_blocks (s ∷ ss) os e =
    let a = and_true (slot_is_ok s) _ e in
    length-append (block s (get_or os 0 none)) (blocks ss (drop 1 os))
    ∙ omega (arith, length_block s (get_or os 0 none) a.0, length_blocks ss (drop 1 os) a.1)

-- the waiting octets take 1,164, whatever waits
pub length_waiting : (w : Waiting) → length (waiting_part w) ≡ Lengths.waiting
unfolding waiting_part le32
length_waiting w =
    let z : Octets = w.kept ++ replicate Lengths.longest_kept 0 in
    let n : length z ≡ length w.kept + Lengths.longest_kept = length-append w.kept (replicate Lengths.longest_kept 0)
    ∙ ap (λ (k : ℕ). length w.kept + k) (length-replicate {A = ℕ} Lengths.longest_kept 0) in
    omega (arith, length-take-le Lengths.longest_kept z (omega arith))

-- clock and blocks of a hub
unfoldable pub before : Hub → Octets
before h = le32 h.plain.clock ++ blocks h.plain.controllers h.open_commands

-- the state is clock and blocks, then the waiting octets
pub encode_split : (h : Hub) → encode h ≡ before h ++ waiting_part h.waiting
unfolding encode before
encode_split h = sym (append_assoc (le32 h.plain.clock) (blocks h.plain.controllers h.open_commands) (waiting_part h.waiting))

-- clock and blocks end where the waiting octets begin
pub length_before : (h : Hub) → plain_ok h.plain ≡ true → length (before h) ≡ Lengths.blocks_end
unfolding before le32
length_before h e =
    let f = plain_fit h.plain e in
    let n : length h.plain.controllers ≡ 4 = equal _ _ f.four in
    omega (arith, length_blocks h.plain.controllers h.open_commands f.slots)

-- the lent state of a well-formed hub has one length
pub encode_length : (h : Hub) → plain_ok h.plain ≡ true → length (encode h) ≡ Lengths.state
encode_length h e =
    rw (encode_split h) (length-append (before h) (waiting_part h.waiting) ∙ omega (arith, length_before h e, length_waiting h.waiting))

-- the waiting octets stand at the end of the state
pub waiting_tail : (h : Hub) → plain_ok h.plain ≡ true → drop Lengths.blocks_end (encode h) ≡ waiting_part h.waiting
waiting_tail h e = ap (λ (o : Octets). drop Lengths.blocks_end o) (encode_split h)
    ∙ drop_at (before h) (waiting_part h.waiting) Lengths.blocks_end (length_before h e)

-- 2. Open commands and waiting octets cleared
-- --------------------------------------------------------------------------------------------------------------------

-- a block with its open command cleared is the block with none
clear_block_lem : (s : Option Controller) (o : Option OpenCommand) → clear_block (block s o) ≡ block s none
unfolding clear_block block open_part
clear_block_lem none o = refl
clear_block_lem (some c) o = rw (drop_at (open_part o) (controller_part c) 5 (length_open o))

-- all blocks with their open commands cleared, whatever follows them
clear_blocks_lem : (ss : List (Option Controller)) (os : List (Option OpenCommand)) (z : Octets) → slots_ok ss ≡ true
    → clear_blocks (length ss) (blocks ss os ++ z) ≡ blocks ss (replicate (length ss) none)
unfolding clear_blocks blocks slots_ok
clear_blocks_lem [] os z e = refl
clear_blocks_lem (s ∷ ss) os z e =
    let a = and_true (slot_is_ok s) _ e in
    let n = length_block s (get_or os 0 none) a.0 in
    let x = block s (get_or os 0 none) in
    let y = blocks ss (drop 1 os) ++ z in
    rw (append_assoc, take_at x y Lengths.block n, drop_at x y Lengths.block n, clear_block_lem s (get_or os 0 none), clear_blocks_lem ss (drop 1 os) z a.1)

-- clearing open commands and waiting octets leaves the state of the plain hub with nothing under way and nothing waiting
pub clears : (h : Hub) → plain_ok h.plain ≡ true → cleared (encode h) ≡ encode (idle h.plain)
unfolding cleared encode le32 idle waiting_part nothing_waits
clears h e =
    let f = plain_fit h.plain e in
    let n : length h.plain.controllers ≡ 4 = equal _ _ f.four in
    let z : Octets = waiting_part h.waiting in
    let c = clear_blocks_lem h.plain.controllers h.open_commands z f.slots in
    let d : clear_blocks 4 (blocks h.plain.controllers h.open_commands ++ z) ≡ blocks h.plain.controllers (replicate 4 none) = rw n at c in
    rw d

-- waiting octets are made zero behind clock and blocks
line_cut : (b z : Octets) → length b ≡ Lengths.blocks_end → line_cleared (b ++ z) ≡ b ++ waiting_part nothing_waits
unfolding line_cleared waiting_part nothing_waits le32
line_cut b z n = ap {B = Octets} (λ (o : Octets). o ++ replicate Lengths.waiting 0) (take_at b z Lengths.blocks_end n)

-- clearing the waiting octets alone leaves the state of the hub with nothing waiting
pub line_clears : (h : Hub) → plain_ok h.plain ≡ true → line_cleared (encode h) ≡ encode (with_waiting h nothing_waits)
unfolding with_waiting before
line_clears h e = ap line_cleared (encode_split h) ∙ line_cut (before h) (waiting_part h.waiting) (length_before h e)
    ∙ sym (encode_split (with_waiting h nothing_waits))
