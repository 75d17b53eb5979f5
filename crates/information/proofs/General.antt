-- The general commands: from what their steps leave to what the model says of them, over plain values.
-- Assumes nothing.
use mathlib.Core.Path.{◌≡◌, refl, subst, sym, ◌∙◌}
use Prim.Native.Nat.{ℕ, zero, suc, ◌+◌, ◌-◌, ◌/◌, ◌≤◌, ◌<◌}
use native.Mathlib.Omega.{arith}
use mathlib.Core.Bool.{Bool, true, false}
use mathlib.Core.List.{List, [], ◌∷◌, ◌++◌, append-nil, append_assoc}
use mathlib.Core.Option.{Option, none, some}
use lib.ListN.{length, get_or, take, drop, length-append, length-take}
use lib.Seq.{take_at}
use borrow.Author.Tests.{eq-eqb, ne_eqb}
use Rattle.model.specs.Statuses as Statuses
use Rattle.model.specs.Lengths as Lengths
use Rattle.model.specs.Octets.{Octets, le16, command_complete, command_status}
use Rattle.model.specs.State.{Controller, PlainHub}
use Rattle.model.specs.Reasons.{status_of}
use Rattle.model.specs.declared.Reason.TheVariants.{LengthWrong, IndexNotNone}
use Rattle.model.specs.Commands.{read_version, read_commands, read_indexes, words, command_codes, event_codes, present_from}
use Rattle.model.specs.Hub.{finished, refused, by_status, general_out}
use Rattle.model.specs.Layout.{decode, controllers_in}
use Rattle.model.specs.Meanings.{state_ok}
use Rattle.model.proofs.Model.Demand3.{state_back}
use Rattle.octets.specs.Parts.{write_at}
use Rattle.octets.proofs.Parts.{write_split, write_right, write_front}
use Rattle.layout.specs.Places.{present_at}
use Rattle.layout.proofs.Reading.{present_slot, absent_slot}
use Rattle.replies.specs.Answers.{Gives}
use Rattle.model.specs.declared.Answer.{Answer}
use Rattle.model.specs.declared.Answer.TheVariants.{Done, Refused}
use Rattle.outcomes.specs.Outcomes.{general_command}
use Rattle.outcomes.proofs.Endings.{ends_refused, ends_done}
use Rattle.information.specs.General.{Reply, listed}
use Rattle.model.proofs.Model.Room.{length_complete, length_le16}

-- 1. The two checks, and done -----------------------------------------------------------------------------------------------------------------

-- the model refuses an index other than 0xFFFF with Invalid Index
out_index : (p : PlainHub) (i code : ℕ) (ps : Octets) (f : PlainHub → Octets) → (i ≡ 65535 → ⊥)
    → general_out p i code ps f ≡ refused (by_status i code) IndexNotNone
unfolding general_out
out_index p i code ps f e = rw (ne_eqb i 65535 e, general_out)

-- then it refuses any parameters with Invalid Parameters
out_length : (p : PlainHub) (i code : ℕ) (ps : Octets) (f : PlainHub → Octets) → i ≡ 65535 → (length ps ≡ 0 → ⊥)
    → general_out p i code ps f ≡ refused (by_status i code) LengthWrong
unfolding general_out
out_length p i code ps f e l = rw (eq-eqb i 65535 e, general_out, ne_eqb (length ps) 0 l)

-- else the command is done, and the hub stays as it was
out_done : (p : PlainHub) (i code : ℕ) (ps : Octets) (f : PlainHub → Octets) → i ≡ 65535 → length ps ≡ 0
    → general_out p i code ps f ≡ finished (command_complete i code 0 (f p)) p
unfolding general_out
out_done p i code ps f e l = rw (eq-eqb i 65535 e, general_out, eq-eqb (length ps) 0 l)

module _ (i code : ℕ) (ps d d' : Octets) (r : Answer) (s : Octets) (f : PlainHub → Octets) (ok : state_ok s ≡ true)
    (big : Lengths.reply_buffer ≤ length d) where
  -- another index
  pub general_index : (i ≡ 65535 → ⊥) → r ≡ Refused 9 → d' ≡ write_at d 0 (command_status i code Statuses.invalid_index)
      → Gives (general_command s i code ps f) r d d' s
  unfolding general_command status_of
  general_index e n w = rw (out_index (decode s).plain i code ps f e) (ends_refused s i code IndexNotNone d d' r ok big n w)

  -- parameters
  pub general_length : i ≡ 65535 → (length ps ≡ 0 → ⊥) → r ≡ Refused 9 → d' ≡ write_at d 0 (command_status i code Statuses.invalid_parameters)
      → Gives (general_command s i code ps f) r d d' s
  unfolding general_command status_of
  general_length e l n w = rw (out_length (decode s).plain i code ps f e l) (ends_refused s i code LengthWrong d d' r ok big n w)

  -- done: the state is as it was
  pub general_done : i ≡ 65535 → length ps ≡ 0 → (body : Octets) → length body ≤ 1000 → f (decode s).plain ≡ body → r ≡ Done (9 + length body)
      → d' ≡ write_at d 0 (command_complete i code 0 body) → Gives (general_command s i code ps f) r d d' s
  unfolding general_command
  general_done e l body short eb n w =
      rw (out_done (decode s).plain i code ps f e l, eb)
      (ends_done s (command_complete i code 0 body) (decode s).plain (9 + length body) d d' s r n (length_complete i code 0 body) (omega arith) w
      (state_back s ok))

-- the same, whatever the state and what the command returns of it
module _ (i code : ℕ) (ps body d d' : Octets) (r : Answer) (big : Lengths.reply_buffer ≤ length d) where
  -- an index other than 0xFFFF: Invalid Index
  pub reply_index : (i ≡ 65535 → ⊥) → r ≡ Refused 9 → d' ≡ write_at d 0 (command_status i code Statuses.invalid_index) → Reply i code ps body r d d'
  reply_index e n w = record { gives = λ s f ok g. general_index i code ps d d' r s f ok big e n w }

  -- parameters, where there are to be none: Invalid Parameters
  pub reply_length : i ≡ 65535 → (length ps ≡ 0 → ⊥) → r ≡ Refused 9 → d' ≡ write_at d 0 (command_status i code Statuses.invalid_parameters)
      → Reply i code ps body r d d'
  reply_length e l n w = record { gives = λ s f ok g. general_length i code ps d d' r s f ok big e l n w }

  -- neither: Command Complete with the body
  pub reply_done : i ≡ 65535 → length ps ≡ 0 → length body ≤ 1000 → r ≡ Done (9 + length body) → d' ≡ write_at d 0 (command_complete i code 0 body)
      → Reply i code ps body r d d'
  reply_done e l short n w = record { gives = λ s f ok g. general_done i code ps d d' r s f ok big e l body short g n w }

-- 2. Constant octets ----------------------------------------------------------------------------------------------------------------------------

-- the version in one octet, the revision in two (01, Commands, 0x0001)
pub version_is : (p : PlainHub) → read_version p ≡ 1 ∷ 10 ∷ 0 ∷ []
unfolding read_version le16
version_is p = refl

-- how many commands and events there are, 22 and 12, and which (01, Commands, 0x0002; 02, E1 and E5)
pub commands_is : (p : PlainHub) → read_commands p
    ≡ 22 ∷ 0 ∷ 12 ∷ 0
    ∷ 0x03 ∷ 0 ∷ 0x04 ∷ 0 ∷ 0x05 ∷ 0 ∷ 0x06 ∷ 0 ∷ 0x07 ∷ 0 ∷ 0x09 ∷ 0 ∷ 0x0D ∷ 0 ∷ 0x0F ∷ 0 ∷ 0x10 ∷ 0 ∷ 0x11 ∷ 0
    ∷ 0x12 ∷ 0 ∷ 0x13 ∷ 0 ∷ 0x1B ∷ 0 ∷ 0x26 ∷ 0 ∷ 0x27 ∷ 0 ∷ 0x2A ∷ 0 ∷ 0x2B ∷ 0 ∷ 0x30 ∷ 0 ∷ 0x33 ∷ 0 ∷ 0x34 ∷ 0 ∷ 0x3E ∷ 0 ∷ 0x3F ∷ 0
    ∷ 0x04 ∷ 0 ∷ 0x05 ∷ 0 ∷ 0x06 ∷ 0 ∷ 0x07 ∷ 0 ∷ 0x08 ∷ 0 ∷ 0x14 ∷ 0 ∷ 0x15 ∷ 0 ∷ 0x16 ∷ 0 ∷ 0x1A ∷ 0 ∷ 0x1B ∷ 0 ∷ 0x23 ∷ 0 ∷ 0x24 ∷ 0 ∷ []
unfolding read_commands command_codes event_codes words le16
commands_is p = refl

-- 3. The present indexes ------------------------------------------------------------------------------------------------------------------------

-- an index as the model lists it
one : ℕ → Option Controller → List ℕ
one i none = []
one i (some c) = i ∷ []

-- the first index is listed if it holds a controller, then those after it
from_step : (i : ℕ) (x : Option Controller) (cs : List (Option Controller)) → present_from i (x ∷ cs) ≡ one i x ++ present_from (suc i) cs
unfolding present_from one
from_step i none cs = refl
from_step i (some c) cs = refl

-- all four indexes, ascending
from_four : (a b c d : Option Controller) → present_from 0 (a ∷ b ∷ c ∷ d ∷ []) ≡ one 0 a ++ (one 1 b ++ (one 2 c ++ (one 3 d ++ [])))
unfolding present_from
from_four a b c d = rw (from_step 0 a (b ∷ c ∷ d ∷ []), from_step 1 b (c ∷ d ∷ []), from_step 2 c (d ∷ []), from_step 3 d [])

-- and as the code lists it
listed_present : (s : Octets) (i : ℕ) → present_at s i ≡ true → listed s i ≡ i ∷ []
unfolding listed
listed_present s i e = rw (e, listed)

-- an index without a controller is not listed
listed_absent : (s : Octets) (i : ℕ) → present_at s i ≡ false → listed s i ≡ []
unfolding listed
listed_absent s i e = rw (e, listed)

-- the code and the model list an index alike
listed_is : (s : Octets) (i : ℕ) → i < 4 → listed s i ≡ one i (get_or (decode s).plain.controllers i none)
unfolding one
listed_is s i l = go (present_at s i) refl
  where
    go : (b : Bool) → present_at s i ≡ b → listed s i ≡ one i (get_or (decode s).plain.controllers i none)
    go true e = rw (listed_present s i e, present_slot s i e)
    go false e = rw (listed_absent s i e, absent_slot s i l e)

-- two lists of numbers, written as octets, stand one behind the other
words_append : (a b : List ℕ) → words (a ++ b) ≡ words a ++ words b
unfolding words
words_append [] b = refl
words_append (x ∷ a) b = rw (words_append a b, append_assoc)

-- every number takes two octets
length_words : (a : List ℕ) → length (words a) ≡ length a + length a
unfolding words le16
length_words [] = refl
length_words (x ∷ a) = let e = length_words a in omega arith

-- all four
four : Octets → List ℕ
four s = listed s 0 ++ (listed s 1 ++ (listed s 2 ++ listed s 3))

-- what the code lists at the four indexes is what the model lists
four_is : (s : Octets) → present_from 0 (decode s).plain.controllers ≡ four s
unfolding four decode controllers_in
four_is s =
    from_four _ _ _ _ ∙ rw (append-nil, listed_is s 0 (omega arith), listed_is s 1 (omega arith), listed_is s 2 (omega arith), listed_is s 3 (omega arith))

-- so Read Indexes returns the count of them, and then them
indexes_is : (s : Octets) → read_indexes (decode s).plain ≡ le16 (length (four s)) ++ words (four s)
unfolding read_indexes
indexes_is s = rw (four_is s)

-- one index written, or none
pub listed_put : (s d : Octets) (i at : ℕ) (d' : Octets) → present_at s i ≡ true → d' ≡ write_at d at (le16 i) → d' ≡ write_at d at (words (listed s i))
unfolding words
listed_put s d i at d' e w = w ∙ rw (listed_present s i e, words, append-nil)

-- a present index takes two octets of the reply
pub listed_two : (s : Octets) (i : ℕ) → present_at s i ≡ true → length (words (listed s i)) ≡ 2
unfolding words le16
listed_two s i e = rw (listed_present s i e, words)

-- an absent one leaves the reply as it is
pub listed_none : (s d : Octets) (i at : ℕ) → present_at s i ≡ false → d ≡ write_at d at (words (listed s i))
unfolding words write_at
listed_none s d i at e = rw (listed_absent s i e, words)

-- and takes no octet of it
pub listed_zero : (s : Octets) (i : ℕ) → present_at s i ≡ false → length (words (listed s i)) ≡ 0
unfolding words
listed_zero s i e = rw (listed_absent s i e, words)

-- two octets over two
two_over : (a b n : ℕ) (d : Octets) → write_at (a ∷ b ∷ d) 0 (le16 n) ≡ le16 n ++ d
unfolding write_at le16
two_over a b n d = refl

-- the count is written last, before them
count_first : (d : Octets) (n : ℕ) (x : Octets) → 2 ≤ length d → write_at (write_at d 2 x) 0 (le16 n) ≡ write_at d 0 (le16 n ++ x)
unfolding le16
count_first [] n x h = absurd (omega arith)
count_first (a ∷ []) n x h = absurd (omega arith)
count_first (a ∷ b ∷ d) n x h =
    let p : write_at (write_at (a ∷ b ∷ d) 2 x) 0 (le16 n) ≡ le16 n ++ write_at d 0 x = rw (write_right (a ∷ b ∷ []) d 0 x) (two_over a b n (write_at d 0 x)) in
    let q : write_at (write_at (a ∷ b ∷ d) 0 (le16 n)) 2 x ≡ le16 n ++ write_at d 0 x = rw (two_over a b n d) (write_right (le16 n) d 0 x) in
    p ∙ sym (write_split (a ∷ b ∷ d) 0 (le16 n) x ∙ q)

-- one index behind the others
next_index : (d : Octets) (at : ℕ) (l m : List ℕ) (k : ℕ) → k ≡ at + length (words l)
    → write_at (write_at d at (words l)) k (words m) ≡ write_at d at (words (l ++ m))
next_index d at l m k e = rw e (sym (rw (words_append l m) (write_split d at (words l) (words m))))

-- half of the octets
half : (e n w l : ℕ) → e ≡ 2 + w → w ≡ l + l → n ≡ (e - 2) / 2 → n ≡ l
half e n w l ee ew en = omega arith

-- the first k indexes, as far as they hold a controller
abbrev pub first_listed : Octets → ℕ → List ℕ
first_listed s zero = []
first_listed s (suc k) = first_listed s k ++ listed s k

-- one index more, behind those before it
pub index_more : (s d d' d'' : Octets) (k p q : ℕ) → p ≡ 2 + length (words (first_listed s k)) → d' ≡ write_at d 2 (words (first_listed s k))
    → q ≡ p + length (words (listed s k)) → d'' ≡ write_at d' p (words (listed s k))
    → (q ≡ 2 + length (words (first_listed s (suc k)))) × (d'' ≡ write_at d 2 (words (first_listed s (suc k))))
index_more s d d' d'' k p q ep w eq w' = (
  rw (words_append (first_listed s k) (listed s k), length-append) (omega (arith, ep, eq)),
  w' ∙ rw w (next_index d 2 (first_listed s k) (listed s k) p ep),
)

-- the same where the index that is listed is any number equal to k
pub index_more_by : (s d d' d'' : Octets) (k i p q : ℕ) → p ≡ 2 + length (words (first_listed s k)) → d' ≡ write_at d 2 (words (first_listed s k))
    → q ≡ p + length (words (listed s i)) → d'' ≡ write_at d' p (words (listed s i)) → i ≡ k
    → (q ≡ 2 + length (words (first_listed s (suc k)))) × (d'' ≡ write_at d 2 (words (first_listed s (suc k))))
index_more_by s d d' d'' k i p q ep w eq w' z =
    index_more s d d' d'' k p q ep w (subst (λ x. q ≡ p + length (words (listed s x))) z eq) (subst (λ x. d'' ≡ write_at d' p (words (listed s x))) z w')

-- the count, from the place behind the last index
pub indexes_put : (s d d' d'' : Octets) (e n : ℕ) → 2 ≤ length d
    → e ≡ 2 + length (words (first_listed s 4)) → d' ≡ write_at d 2 (words (first_listed s 4)) → n ≡ (e - 2) / 2 → d'' ≡ write_at d' 0 (le16 n)
    → (e ≡ length (read_indexes (decode s).plain)) × (d'' ≡ write_at d 0 (read_indexes (decode s).plain))
unfolding four
indexes_put s d d' d'' e n two ee w en w' =
    let l = first_listed s 4 in
    let f : four s ≡ l = simp append_assoc in
    let en' : n ≡ length l = half e n (length (words l)) (length l) ee (length_words l ∙ omega arith) en in
    let r : read_indexes (decode s).plain ≡ le16 n ++ words l = indexes_is s ∙ rw (f, en') in
    (rw (r, length-append, length_le16 n) ee, w' ∙ rw (w, r) (count_first d n (words l) two))

-- the octets at the front are what was written there
pub front_is : (d d' x : Octets) (n : ℕ) → n ≤ length d → n ≡ length x → d' ≡ write_at d 0 x → x ≡ take n d'
front_is d d' x n h e w =
    let q : d' ≡ x ++ drop (length x) d = w ∙ write_front d x (omega arith) in
    sym (rw (q, e) (take_at x (drop (length x) d) (length x) refl))

-- a part at the front is as long as it says
pub front_long : (d : Octets) (n k : ℕ) → length d ≡ k → n ≤ k → n ≡ length (take n d)
front_long d n k e h = sym (length-take n d ∙ omega arith)
