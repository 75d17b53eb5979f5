-- The laws by which `first_pair` goes from record to record: at each place, what is left to compare tells what the whole list tells.
use Prim.Native.Nat.{ℕ, zero, suc, ◌+◌, ◌-◌, ◌*◌, ◌≤◌, ◌<◌}
use native.Mathlib.Omega.{arith}
use native.Mathlib.Nat.{mul-suc}
use mathlib.Core.Path.{◌≡◌, sym, ◌∙◌}
use mathlib.Core.Bool.{Bool, true, false}
use mathlib.Core.List.{List, [], ◌∷◌, map}
use lib.ListN.{length, drop}
use lib.Seq.{drop-drop}
use Rattle.model.specs.Octets.{Octets, bytes, same}
use Rattle.model.specs.declared.Place.{Place}
use Rattle.model.specs.declared.Place.TheVariants.{Nowhere, Records}
use Rattle.model.specs.Tables.{chop, first_pair, pair_with, rule_at}
use Rattle.model.proofs.Model.Tables.{bytes_drop, bytes_take}
use Rattle.octets.specs.Parts.{part}
use Rattle.octets.proofs.Parts.{length_part}
use Rattle.records.specs.declared.Identity.{Identity}
use Rattle.records.specs.Identities.{identity_of, same_identity}
use Rattle.records.proofs.Identities.{identity_told}
use Rattle.records.proofs.Laws.{size_least}
use Rattle.faults.proofs.Records.{within}

-- the identities of n records of table k from a place on
abbrev pub keys : ℕ → Octets → ℕ → ℕ → List Octets
keys k s at n = map (rule_at k).key (chop (rule_at k).size n (drop at s))

-- the identity of the record at a place
abbrev pub key_at : ℕ → Octets → ℕ → Octets
key_at k s at = (rule_at k).key (part s at (rule_at k).size)

-- the first record, and the rest
keys_cons : (k : ℕ) (s : Octets) (at n : ℕ) → 0 < n → keys k s at n ≡ key_at k s at ∷ keys k s (at + (rule_at k).size) (n - 1)
unfolding chop part
keys_cons k s at zero l = absurd (omega arith)
keys_cons k s at (suc n) l = let e : suc n - 1 ≡ n = omega arith in rw (e, drop-drop (rule_at k).size at s)

-- of no records there are no identities
keys_end : (k : ℕ) (s : Octets) (at n : ℕ) → n ≤ 0 → keys k s at n ≡ []
unfolding chop
keys_end k s at n l = let e : n ≡ 0 = omega arith in rw e

-- a part of octets is octets
bytes_part : (s : Octets) (at n : ℕ) → bytes s ≡ true → bytes (part s at n) ≡ true
unfolding part
bytes_part s at n e = bytes_take n (drop at s) (bytes_drop at s e)

-- two records share an identity by its words exactly if they do by the model's keys
told : (k : ℕ) (s : Octets) (at next : ℕ) → k < 6 → bytes s ≡ true → at + (rule_at k).size ≤ length s → next + (rule_at k).size ≤ length s
    → same_identity (identity_of k (part s at (rule_at k).size)) (identity_of k (part s next (rule_at k).size)) ≡ same (key_at k s at) (key_at k s next)
told k s at next l w f g =
    let e : length (part s at (rule_at k).size) ≡ length (part s next (rule_at k).size) = rw (length_part s at _ f, length_part s next _ g) in
    identity_told k (part s at (rule_at k).size) (part s next (rule_at k).size) l e (bytes_part s at _ w) (bytes_part s next _ w)

-- a key that is the same as the next one
with_hit : (a : ℕ) (x : Octets) (b : ℕ) (y : Octets) (ys : List Octets) (rest : Place) → same x y ≡ true → pair_with a x b (y ∷ ys) rest ≡ Records a b
unfolding pair_with
with_hit a x b y ys rest e = rw (e, pair_with)

-- one that is not
with_miss : (a : ℕ) (x : Octets) (b : ℕ) (y : Octets) (ys : List Octets) (rest : Place) → same x y ≡ false
    → pair_with a x b (y ∷ ys) rest ≡ pair_with a x (b + 1) ys rest
unfolding pair_with
with_miss a x b y ys rest e = let z : b + 1 ≡ suc b = omega arith in rw (e, pair_with, z)

-- there are no more records than octets
pub few : (k : ℕ) (at n end : ℕ) → k < 6 → at + (rule_at k).size * n ≤ end → n ≤ end
few k at n end l h = let s = size_least k l in let m = most (rule_at k).size n (omega arith) in omega arith
  where
    most : (size n : ℕ) → 0 < size → n ≤ size * n
    most size zero l = omega arith
    most size (suc n) l = let i = most size n l in let m = mul-suc size n in omega arith

-- where record a of a list from a place on begins
abbrev pub begin : (k from a : ℕ) → ℕ
begin k from a = from + (rule_at k).size * a

-- the next record begins behind it
next_begin : (k from a : ℕ) → begin k from a + (rule_at k).size ≡ begin k from (a + 1)
next_begin k from a = omega (arith, mul-suc (rule_at k).size a)

-- before a turn of the outer loop: the pair that record a and the later ones have is the pair of all
abbrev pub Outer : (k : ℕ) (s : Octets) (from n a : ℕ) → Type 0
Outer k s from n a = first_pair a (keys k s (begin k from a) (n - a)) ≡ first_pair 0 (keys k s from n)

-- before a turn of the inner loop: so is the pair that record a has with record b or a later one, or else the later ones have
abbrev pub Inner : (k : ℕ) (s : Octets) (from n a b : ℕ) → Type 0
Inner k s from n a b =
    pair_with a (key_at k s (begin k from a)) b (keys k s (begin k from b) (n - b)) (first_pair (a + 1) (keys k s (begin k from (a + 1)) (n - (a + 1))))
    ≡ first_pair 0 (keys k s from n)

module _ (k : ℕ) (s : Octets) (from n a : ℕ) where
  -- record a, and the rest
  here : a < n → keys k s (begin k from a) (n - a) ≡ key_at k s (begin k from a) ∷ keys k s (begin k from (a + 1)) (n - (a + 1))
  here l =
      let e : n - a - 1 ≡ n - (a + 1) = omega arith in
      rw (← e, ← next_begin k from a) (keys_cons k s (begin k from a) (n - a) (omega arith))

  -- the inner loop begins with the record behind record a
  pub goes_in : a < n → Outer k s from n a → Inner k s from n a (a + 1)
  unfolding first_pair
  goes_in l o = let z : suc a ≡ a + 1 = omega arith in rw (here l, z) at o

  -- no record is left: there is no pair
  pub ends : n ≤ a → Outer k s from n a → Nowhere ≡ first_pair 0 (keys k s from n)
  unfolding first_pair
  ends l o = rw (keys_end k s (begin k from a) (n - a) (omega arith)) at o

  -- record a is compared with all behind it: on to record a + 1
  pub goes_out : (b : ℕ) → n ≤ b → Inner k s from n a b → Outer k s from n (a + 1)
  unfolding pair_with
  goes_out b l i = rw (keys_end k s (begin k from b) (n - b) (omega arith)) at i

-- one turn of the inner loop: records a and b are compared by their identities
module _ (k : ℕ) (s : Octets) (from n a b : ℕ) (l : k < 6) (w : bytes s ≡ true) (la : a < n) (lb : b < n) (fits : from + (rule_at k).size * n ≤ length s) where
  -- what the comparison says, by the model's keys
  compared : (mine other : Identity) → mine ≡ identity_of k (part s (begin k from a) (rule_at k).size)
      → other ≡ identity_of k (part s (begin k from b) (rule_at k).size) → (r : Bool) → r ≡ same_identity mine other
      → same (key_at k s (begin k from a)) (key_at k s (begin k from b)) ≡ r
  compared mine other m o r e =
      sym (e ∙ rw (m, o) (told k s (begin k from a) (begin k from b) l w (within (rule_at k).size from a n _ la fits) (within (rule_at k).size from b n _ lb fits)))

  -- two records share an identity: this is the pair
  pub hits : Inner k s from n a b → (mine other : Identity) → mine ≡ identity_of k (part s (begin k from a) (rule_at k).size)
      → other ≡ identity_of k (part s (begin k from b) (rule_at k).size) → (r : Bool) → r ≡ same_identity mine other → r ≡ true
      → Records a b ≡ first_pair 0 (keys k s from n)
  hits i mine other m o r e t =
      sym (with_hit a (key_at k s (begin k from a)) b (key_at k s (begin k from b)) _ _ (compared mine other m o r e ∙ t)) ∙ rw (here k s from n b lb) at i

  -- they do not: on to the next
  pub misses : Inner k s from n a b → (mine other : Identity) → mine ≡ identity_of k (part s (begin k from a) (rule_at k).size)
      → other ≡ identity_of k (part s (begin k from b) (rule_at k).size) → (r : Bool) → r ≡ same_identity mine other → r ≡ false
      → Inner k s from n a (b + 1)
  misses i mine other m o r e t =
      sym (with_miss a (key_at k s (begin k from a)) b (key_at k s (begin k from b)) _ _ (compared mine other m o r e ∙ t)) ∙ rw (here k s from n b lb) at i
