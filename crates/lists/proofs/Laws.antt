-- The laws by which a loop goes from record to record of a list, and what the checks of a list come to.
use Prim.Native.Nat.{ℕ, zero, suc, ◌+◌, ◌-◌, ◌*◌, ◌≤◌, ◌<◌}
use native.Mathlib.Omega.{arith}
use native.Mathlib.Nat.{mul-suc, mul-zero, mul-le-mul_left}
use native.Mathlib.Numerals.{add-one}
use mathlib.Core.Path.{◌≡◌, refl, sym, ap, subst, ◌∙◌}
use mathlib.Core.Bool.{Bool, true, false, ◌&&◌, not}
use mathlib.Core.List.{List, [], ◌∷◌, ◌++◌, map, append-nil, append_assoc}
use lib.ListN.{length, get_or, take, drop, set, length-set, length-take, length-drop, drop_of_length-le}
use lib.Dec.{eqb}
use lib.Seq.{drop-cons, drop-drop, take-suc-set, take_all}
use Rattle.std.specs.List.{list_any}
use borrow.Author.Tests.{eq-eqb, ne_eqb, eqb-true, eqb-false}
use Rattle.model.specs.Octets.{Octets}
use Rattle.model.specs.Reasons.{passes}
use Rattle.model.specs.Tables.{TableRule, blocked_rule, chop, device_rule, distinct, identity_key_rule, link_key_rule, long_term_key_rule, table_rules}
use Rattle.model.specs.Tables.{rule_at}
use Rattle.model.proofs.Model.Tables.{bytes_drop, length_chop, slice_bytes}
use Rattle.model.proofs.Model.Tests.{no_way}
use Rattle.octets.specs.Parts.{part}
use Rattle.octets.specs.Numbers.{little}
use Rattle.records.specs.Identities.{among, apart, identity_of, same_identity, words_of}
use Rattle.records.specs.declared.Identity.{Identity}
use Rattle.records.proofs.Identities.{apart_told, whole_chop}
use Rattle.records.proofs.Laws.{passes_append, passes_cons, passes_none}
use Rattle.lists.specs.Lists.{KeysRead, key_at, key_identity, key_of, low_words, each_checks, value_checks}
use Rattle.lists.specs.declared.Key.{Key}

-- 1. From record to record ------------------------------------------------------------------------------------------------------------------------

-- whether each of n records of table k from a place on passes its checks
abbrev pub kept_from : ℕ → Octets → ℕ → ℕ → Bool
kept_from k s at n = passes (each_checks (rule_at k) (chop (rule_at k).size n (drop at s)))

-- the low words of their identities
abbrev pub words_from : ℕ → Octets → ℕ → ℕ → List ℕ
words_from k s at n = low_words k (chop (rule_at k).size n (drop at s))

-- no record is left
kept_end : (k : ℕ) (s : Octets) (at n : ℕ) → n ≤ 0 → kept_from k s at n ≡ true
unfolding chop each_checks
kept_end k s at n l = let e : n ≡ 0 = omega arith in rw (e, passes_none)

-- and no word
words_end : (k : ℕ) (s : Octets) (at n : ℕ) → n ≤ 0 → words_from k s at n ≡ []
unfolding chop low_words
words_end k s at n l = let e : n ≡ 0 = omega arith in rw e

-- the record at a place, and the rest
kept_cons : (k : ℕ) (s : Octets) (at n : ℕ) → 0 < n
    → kept_from k s at n ≡ passes ((rule_at k).checks (part s at (rule_at k).size)) && kept_from k s (at + (rule_at k).size) (n - 1)
unfolding chop each_checks part
kept_cons k s at zero l = absurd (omega arith)
kept_cons k s at (suc n) l = let e : suc n - 1 ≡ n = omega arith in rw (e, passes_append, drop-drop (rule_at k).size at s)

-- its word, and those of the rest
words_cons : (k : ℕ) (s : Octets) (at n : ℕ) → 0 < n
    → words_from k s at n ≡ (identity_of k (part s at (rule_at k).size)).low ∷ words_from k s (at + (rule_at k).size) (n - 1)
unfolding chop low_words part
words_cons k s at zero l = absurd (omega arith)
words_cons k s at (suc n) l = let e : suc n - 1 ≡ n = omega arith in rw (e, drop-drop (rule_at k).size at s)

-- 2. Where the reader stands ------------------------------------------------------------------------------------------------------------------------

-- where record i of a list begins
abbrev pub place_at : (k from i : ℕ) → ℕ
place_at k from i = from + (rule_at k).size * i

-- the first one begins where the list does
pub place_start : (k from : ℕ) → from ≡ place_at k from 0
place_start k from = rw mul-zero (omega arith)

-- one record further on
pub place_next : (k from i : ℕ) → place_at k from i + (rule_at k).size ≡ place_at k from (i + 1)
place_next k from i = let e : i + 1 ≡ suc i = omega arith in rw e (omega (arith, mul-suc (rule_at k).size i))

-- a record that is still to be read lies within the packet
pub place_fits : (k from n i end : ℕ) → i < n → from + (rule_at k).size * n ≤ end → place_at k from i + (rule_at k).size ≤ end
place_fits k from n i end l h =
    let e : suc i ≤ n = omega arith in
    omega (arith, mul-le-mul_left (rule_at k).size e, mul-suc (rule_at k).size i)

-- what is known where i of n records are read, and the words of their identities stand in l: the records that are left tell what all tell
pub record Reached (k : ℕ) (s : Octets) (from n i : ℕ) (l : List ℕ) : Type 0 where
  pub most : i ≤ n
  pub long : length l ≡ 32
  pub told : kept_from k s (place_at k from i) (n - i) ≡ kept_from k s from n
  pub words : take i l ++ words_from k s (place_at k from i) (n - i) ≡ words_from k s from n

module _ (k : ℕ) (s : Octets) (from n i : ℕ) (l : List ℕ) (h : Reached k s from n i l) where
  -- at the end none is left: all pass, and all words are there
  pub reached_end : n ≤ i → KeysRead k (chop (rule_at k).size n (drop from s)) true l
  reached_end e =
      let m = h.most in
      let z : n - i ≤ 0 = omega arith in
      let q : i ≡ n = omega arith in
      record {
        told = sym (kept_end k s (place_at k from i) (n - i) z) ∙ h.told;
        words = λ _. rw length_chop (sym (append-nil (take n l)) ∙ sym (ap (λ (x : List ℕ). take n l ++ x) (words_end k s (place_at k from i) (n - i) z))
            ∙ subst (λ (j : ℕ). take j l ++ words_from k s (place_at k from i) (n - i) ≡ words_from k s from n) q h.words);
        long = h.long;
      }

  module _ (less : i < n) (most : n ≤ 32) (key : Key) (e : key ≡ key_at s (place_at k from i) k) where
    -- whether it keeps its rule is whether its checks pass
    kept_is : key.keeps_rule ≡ passes ((rule_at k).checks (part s (place_at k from i) (rule_at k).size))
    unfolding key_at key_of
    kept_is = ap (λ (x : Key). x.keeps_rule) e

    -- and its identity is that of the record there
    identity_is : key.identity ≡ identity_of k (part s (place_at k from i) (rule_at k).size)
    unfolding key_at key_of
    identity_is = ap (λ (x : Key). x.identity) e

    -- it breaks its rule, and so the list is not kept
    pub reached_fails : key.keeps_rule ≡ false → KeysRead k (chop (rule_at k).size n (drop from s)) false (set l i key.identity.low)
    reached_fails f = record {
      told = sym (sym h.told ∙ rw (kept_cons k s (place_at k from i) (n - i) (omega arith), ← kept_is, f));
      words = λ z. no_way (sym z);
      long = rw length-set h.long;
    }

    -- it keeps its rule: one more is read
    pub reached_more : key.keeps_rule ≡ true → Reached k s from n (i + 1) (set l i key.identity.low)
    reached_more t =
        let j : n - i - 1 ≡ n - (i + 1) = omega arith in
        let w = h.long in
        let g : 0 < n - i = omega arith in
        record {
          most = omega arith;
          long = rw length-set w;
          told = rw (← place_next k from i, ← j) (sym (rw (kept_cons k s (place_at k from i) (n - i) g, ← kept_is, t)) ∙ h.told);
          words =
              rw (← place_next k from i, ← j, add-one, take-suc-set l i key.identity.low (omega arith), append_assoc)
              (sym (ap (λ (x : List ℕ). take i l ++ x) (words_cons k s (place_at k from i) (n - i) g ∙ ap (λ (x : Identity). x.low
              ∷ words_from k s (place_at k from i + (rule_at k).size) (n - i - 1)) (sym identity_is))) ∙ h.words);
        }

-- 3. The values of a list -------------------------------------------------------------------------------------------------------------------------

-- whether each record passes, and no two have one identity
values_are : (u : TableRule) (rs : List Octets) → passes (value_checks u rs) ≡ passes (each_checks u rs) && distinct (map u.key rs)
unfolding value_checks
values_are u rs = rw (passes_append (each_checks u rs), passes_cons, passes_none) (go (passes (each_checks u rs)) (distinct (map u.key rs)))
  where
    go : (a b : Bool) → a && (not (not b) && true) ≡ a && b
    go a true = refl
    go a false = refl

-- behind seven octets or more of the first seven nothing is left
none_behind : (m : ℕ) (o : Octets) → 7 ≤ m → drop m (take 7 o) ≡ []
none_behind m o l = drop_of_length-le (take 7 o) {i = m} (rw length-take (omega arith))

-- of a key nothing lies in the high word
key_high : (k : ℕ) (r : Octets) → 0 < k → k < 6 → (identity_of k r).high ≡ 0
unfolding identity_of words_of little rule_at table_rules link_key_rule long_term_key_rule identity_key_rule blocked_rule device_rule
key_high zero r z l = absurd (omega arith)
key_high (suc zero) r z l = rw (none_behind 8 r (omega arith))
key_high (suc (suc zero)) r z l = rw (none_behind 7 r (omega arith))
key_high (suc (suc (suc zero))) r z l = rw (none_behind 8 r (omega arith))
key_high (suc (suc (suc (suc zero)))) r z l = rw (none_behind 8 r (omega arith))
key_high (suc (suc (suc (suc (suc zero))))) r z l = rw (none_behind 8 r (omega arith))
key_high (suc (suc (suc (suc (suc (suc k)))))) r z l = absurd (omega arith)

-- so its low word is its identity
word_identity : (k : ℕ) (r : Octets) → 0 < k → k < 6 → key_identity (identity_of k r).low ≡ identity_of k r
unfolding key_identity
word_identity k r z l = λ j. record { low = (identity_of k r).low; high = sym (key_high k r z l) j }

-- and the words of keys are their identities
words_identities : (k : ℕ) (rs : List Octets) → 0 < k → k < 6 → map key_identity (low_words k rs) ≡ map (identity_of k) rs
unfolding low_words
words_identities k [] z l = refl
words_identities k (r ∷ rs) z l = rw (word_identity k r z l, words_identities k rs z l)

-- a record fails
pub list_fails : (k : ℕ) (rs : List Octets) (r : Bool) (low : List ℕ) → KeysRead k rs r low → r ≡ false → false ≡ passes (value_checks (rule_at k) rs)
list_fails k rs r low h f = sym (rw (values_are, ← h.told, f))

-- none fails, and the identities tell
pub list_tells : (k : ℕ) (s : Octets) (from n : ℕ) (r d : Bool) (low : List ℕ) → 0 < k → k < 6 → from + (rule_at k).size * n ≤ length s
    → ((j : ℕ) → get_or s j 0 < 256)
    → KeysRead k (chop (rule_at k).size n (drop from s)) r low → r ≡ true → d ≡ apart (map key_identity (take n low))
    → d ≡ passes (value_checks (rule_at k) (chop (rule_at k).size n (drop from s)))
list_tells k s from n r d low z l inside octets h t ed =
    let rs : List Octets = chop (rule_at k).size n (drop from s) in
    let w : take n low ≡ low_words k rs = rw length_chop at (h.words t) in
    let a : apart (map (identity_of k) rs) ≡ distinct (map (rule_at k).key rs) =
    apart_told k rs l (whole_chop k n (drop from s) (rw length-drop (omega arith)) (bytes_drop from s (slice_bytes s octets))) in
    ed ∙ rw (w, words_identities k rs z l, a, values_are, ← h.told, t)

-- 4. Repeats ----------------------------------------------------------------------------------------------------------------------------------

-- words are one exactly if they are equal
word_same : (x y : ℕ) → eqb y x ≡ same_identity (key_identity x) (key_identity y)
unfolding same_identity key_identity
word_same x y = go (eqb x y) refl
  where
    go : (b : Bool) → eqb x y ≡ b → eqb y x ≡ b && true
    go true e = eq-eqb y x (sym (eqb-true x y e))
    go false e = ne_eqb y x (λ z. eqb-false x y e (sym z))

-- a word is one of some if `==` finds it there
among_any : (x : ℕ) (ws : List ℕ) → list_any (λ y. eqb y x) ws ≡ among (key_identity x) (map key_identity ws)
unfolding among
among_any x [] = refl
among_any x (y ∷ ws) = rw (word_same x y, among_any x ws)

module _ (ws : List ℕ) (i : ℕ) (r : Bool) (l : i < length ws)
    (e : r ≡ list_any (λ y. eqb y (get_or ws i 0)) (take (length ws - (i + 1)) (drop (i + 1) ws))) where
  -- word i, and whether it stands behind again
  told : r ≡ among (key_identity (get_or ws i 0)) (map key_identity (drop (i + 1) ws))
  told =
      let n : take (length ws - (i + 1)) (drop (i + 1) ws) ≡ drop (i + 1) ws = take_all (length ws - (i + 1)) (drop (i + 1) ws) (rw length-drop (omega arith)) in
      rw n at e ∙ among_any (get_or ws i 0) (drop (i + 1) ws)

  -- word i, and those behind it
  front : drop i ws ≡ get_or ws i 0 ∷ drop (i + 1) ws
  front = let q : i + 1 ≡ suc i = omega arith in rw q (drop-cons ws i 0 l)

  -- what they tell
  split : apart (map key_identity (drop i ws)) ≡ not r && apart (map key_identity (drop (i + 1) ws))
  unfolding apart
  split = ap (λ (x : List ℕ). apart (map key_identity x)) front ∙ ap (λ (b : Bool). not b && apart (map key_identity (drop (i + 1) ws))) (sym told)

  -- word i comes again
  pub apart_hit : r ≡ true → false ≡ apart (map key_identity (drop i ws))
  apart_hit t = sym (split ∙ rw t)

  -- it does not, and those behind it tell
  pub apart_miss : r ≡ false → apart (map key_identity (drop (i + 1) ws)) ≡ apart (map key_identity (drop i ws))
  apart_miss f = sym (split ∙ rw f)

-- none is left
pub apart_end : (ws : List ℕ) (i : ℕ) → length ws ≤ i → true ≡ apart (map key_identity (drop i ws))
unfolding apart
apart_end ws i l = let e : drop i ws ≡ [] = drop_of_length-le ws {i = i} l in rw e
