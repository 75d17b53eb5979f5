-- The fixed part of a controller: what is read makes a well-formed controller and is saved as it was read; what is saved is read back.
use Rattle.std.specs.Prelude.{ℕ, ◌<◌, ◌≡◌, refl, Bool, false, ◌||◌, not, List, [], ◌∷◌, ◌++◌, map, length, get_or, take, drop}
use Rattle.std.proofs.Common.{arith, sym, ◌∙◌, append_assoc, length-append, length-drop, take_at, drop_at, get_or-drop, get_or-take, length-take-le, lit<, ltb→lt}
use Rattle.std.proofs.Math.Path.{ap}
use Rattle.std.proofs.Math.Bool.{true}
use Rattle.std.proofs.Math.ListN.{get_or-append}
use Rattle.std.proofs.Math.Dec.{eqb}
use Rattle.model.specs.Octets.{Octets, be16, be32, bit, bytes, joined, number, octet}
use Rattle.model.specs.State.{Controller, Hardware, RadioSettings, Table, bredr_supported, hardware_ok, name_ends, no_timer, short_name_ends}
use Rattle.model.specs.Tables.{table_rules}
use Rattle.model.specs.Image.{One, Two, Version, bredr_as_supported, bredr_flag, bredr_read, can_say, controller_image, flag_word, flags_of, name_back}
use Rattle.model.specs.Image.{name_image, name_ok, names_back, names_image, radio_ok, reloaded, static_fits, switches_ok, table_image}
use Rattle.model.specs.Reading.{Fixed, BadField, BadIndex, controller_by, fixed_by, fixed_part, flags_right, free, give, hardware_by, index_right, right}
use Rattle.model.specs.WellFormed.{controller_ok, settings_fit, tables_ok, timer_ok}
use Rattle.model.proofs.Model.Fields.{Leaves, NameFit, bytes_both, field_then_lem, give_leaves, name_leaves, name_then_lem, then_field, then_leaves, then_name}
use Rattle.model.proofs.Model.Advertising.{no_advertising_ok}
use Rattle.model.proofs.Model.Numbers.{be16_again, be16_back, be32_again, be32_back, flags_back, number_two}
use Rattle.model.proofs.Model.Parts.{controller_fit, fit_controller, fit_widths, lengths, radio_fit, widths_fit}
use Rattle.model.proofs.Model.Tables.{byte_at, eqb_self, lt_true}
use Rattle.model.proofs.Model.Tests.{and_true, both, equal, no_way, or_not}

-- 1. What is read -----------------------------------------------------------------------------------------------------------------------------

-- what is known of a fixed part that was right: its index, that the version can tell it, that with tables that keep their rules it is a well-formed
-- controller, and that this is saved as the octets that were read
pub record FixedRight (v : Version) (low : ℕ) (o : Octets) (c : Fixed) (x : Octets) : Type 0 where
  pub index : index_right low c.index ≡ true
  pub said : can_say v c.radio ≡ true
  pub fits : (ts : List Table) → tables_ok c.radio.hardware table_rules ts ≡ true → controller_ok (controller_by c ts) ≡ true
  pub again : (ts : List Table) (y : Octets) → joined (map table_image ts) ++ y ≡ x → controller_image v c.index (controller_by c ts) ++ y ≡ o
  pub behind : bytes x ≡ true

-- a field of one octet
pub one_octet : (o x : Octets) → length o ≡ 1 → octet o 0 ∷ x ≡ o ++ x
unfolding octet
one_octet [] x n = absurd (omega arith)
one_octet (y ∷ []) x n = refl
one_octet (y ∷ z ∷ o) x n = absurd (omega arith)

-- two names that fit are a name of the state
names_ok : (n s : Octets) → NameFit 249 n → NameFit 11 s → (length (n ++ s) ≡ 260) × (name_ok (n ++ s) ≡ true)
unfolding name_ok name_ends short_name_ends octet
names_ok n s a b =
    let l : length (n ++ s) ≡ 260 = length-append n s ∙ omega (arith, a.size, b.size) in
    let p : get_or (n ++ s) 248 0 ≡ get_or n 248 0 = get_or-append n s 0 248 (omega (arith, a.size)) in
    let q : get_or (n ++ s) 259 0 ≡ get_or s 10 0 = sym (get_or-drop 249 (n ++ s) 10 0) ∙ ap (λ (d : Octets). get_or d 10 0) (drop_at n s 249 a.size) in
    let pe : eqb (get_or (n ++ s) 248 0) 0 ≡ true = rw p a.ends in
    let qe : eqb (get_or (n ++ s) 259 0) 0 ≡ true = rw q b.ends in
    (l, both pe qe)

-- the two names are written one behind the other
pub names_out : (v : Version) (n s : Octets) → length n ≡ 249 → names_image v (n ++ s) ≡ name_image v n ++ name_image v s
unfolding names_image
names_out v n s e = rw (take_at n s 249 e, drop_at n s 249 e)

-- flag bit 7 is written as it was read
flag_again : (v : Version) (f : Hardware) (n : ℕ) → bredr_flag v (bredr_read v f n) ≡ bredr_flag v (bit 7 n)
unfolding bredr_flag bredr_read
flag_again One f n = refl
flag_again Two f n = refl

-- the version can tell what was read in it
said_again : (v : Version) (i : ℕ) (f : Hardware) (flags : ℕ) (t n : Octets) → can_say v (fixed_by v i f flags t n).radio ≡ true
unfolding can_say bredr_as_supported bredr_read fixed_by
said_again One i f flags t n = or_not (bredr_supported f)
said_again Two i f flags t n = refl

-- the octets of a controller, one part behind the other
flat : (i : ℕ) (a : Octets) (e : ℕ) (m s g t n k r y : Octets)
    → (i ∷ (a ++ (e ∷ (m ++ (s ++ (g ++ (t ++ ((n ++ k) ++ r)))))))) ++ y ≡ i ∷ (a ++ (e ∷ (m ++ (s ++ (g ++ (t ++ (n ++ (k ++ (r ++ y)))))))))
flat i a e m s g t n k r y = simp append_assoc

-- a fixed part by its fields
module _ (v : Version) (low : ℕ) (i a e m s g t n k : Octets) where
  -- its hardware
  abbrev hw : Hardware
  hw = hardware_by a e m s

  -- what it says
  abbrev said : Fixed
  said = fixed_by v (octet i 0) hw (number 0 g) t (n ++ k)

  -- it makes a well-formed controller
  fits_by : bytes a ≡ true → length a ≡ 6 → bytes e ≡ true → bytes m ≡ true → length m ≡ 2 → hardware_ok hw ≡ true → flags_right v hw (number 0 g) ≡ true
      → bytes t ≡ true → length t ≡ 6 → static_fits hw t ≡ true → NameFit 249 n → NameFit 11 k
      → (ts : List Table) → tables_ok hw table_rules ts ≡ true → controller_ok (controller_by said ts) ≡ true
  unfolding fixed_by hardware_by controller_by flags_right radio_ok timer_ok settings_fit no_timer octet
  fits_by wa la we wm lm rs rg wt lt rt fn fk ts ok =
      let names = names_ok n k fn fk in
      let ln : eqb (length (n ++ k)) 260 ≡ true = rw names.0 in
      fit_controller (controller_by said ts) (record {
        radio = both rs (both (and_true (eqb (number 0 g) _) (switches_ok hw (bredr_read v hw (number 0 g)) (bit 9 (number 0 g))) rg).1 rt);
        static_address = rw lt;
        name = both ln names.1;
        tables = ok;
        timer = refl;
        advertising = no_advertising_ok (bit 9 (number 0 g)) false;
        widths = fit_widths (controller_by said ts) (record {
          version = lt_true _ 256 (byte_at e 0 we);
          manufacturer = lt_true _ 65536 (number_two m wm lm);
          public_address = wa;
          static_address = wt;
          name = bytes_both n k fn.octets fk.octets;
          seconds = refl;
        });
      })

  -- it is saved as it was read
  again_by : bytes m ≡ true → bytes s ≡ true → bytes g ≡ true → length i ≡ 1 → length e ≡ 1 → length m ≡ 2 → length s ≡ 4 → length g ≡ 4 → flags_right v hw (number 0 g) ≡ true → length n ≡ 249
      → (ts : List Table) (y : Octets) → controller_image v (octet i 0) (controller_by said ts) ++ y
      ≡ i ++ (a ++ (e ++ (m ++ (s ++ (g ++ (t ++ (name_image v n ++ (name_image v k ++ (joined (map table_image ts) ++ y)))))))))
  unfolding fixed_by hardware_by controller_by flags_right controller_image flags_of
  again_by wm ws wg li le lm ls lg rg ln ts y =
      let rest : Octets = m ++ (s ++ (g ++ (t ++ (name_image v n ++ (name_image v k ++ (joined (map table_image ts) ++ y)))))) in
      let p : number 0 g ≡ flag_word (bit 1 (number 0 g)) (bit 4 (number 0 g)) (bredr_flag v (bit 7 (number 0 g))) (bit 9 (number 0 g)) = equal _ _ (and_true _ (switches_ok hw (bredr_read v hw (number 0 g)) (bit 9 (number 0 g))) rg).0 in
      rw (flag_again v hw (number 0 g), ← p, names_out v n k ln, be16_again m wm lm, be32_again s ws ls, be32_again g wg lg)
      (flat (octet i 0) a (octet e 0) m s g t (name_image v n) (name_image v k) (joined (map table_image ts)) y
      ∙ ap (λ (z : Octets). octet i 0 ∷ (a ++ z)) (one_octet e rest le) ∙ one_octet i (a ++ (e ++ rest)) li)

-- A FIXED PART THAT WAS RIGHT
pub fixed_right : (v : Version) (low : ℕ) (o : Octets) (c : Fixed) (x : Octets) → bytes o ≡ true → fixed_part v low o ≡ right c x → FixedRight v low o c x
unfolding fixed_part give free fixed_by octet
fixed_right v low o c x w z =
    field_then_lem 1 BadIndex _ _ o c x w z λ i o1 hi wi w1 z1.
    field_then_lem 6 BadField _ _ o1 c x w1 z1 λ a o2 ha wa w2 z2.
    field_then_lem 1 BadField _ _ o2 c x w2 z2 λ e o3 he we w3 z3.
    field_then_lem 2 BadField _ _ o3 c x w3 z3 λ m o4 hm wm w4 z4.
    field_then_lem 4 BadField _ _ o4 c x w4 z4 λ s o5 hs ws w5 z5.
    field_then_lem 4 BadField _ _ o5 c x w5 z5 λ g o6 hg wg w6 z6.
    field_then_lem 6 BadField _ _ o6 c x w6 z6 λ t o7 ht wt w7 z7.
    name_then_lem v 249 _ o7 c x w7 z7 λ n o8 hn z8.
    name_then_lem v 11 _ o8 c x hn.behind z8 λ k o9 hk z9.
    let p : fixed_by v (octet i 0) (hardware_by a e m s) (number 0 g) t (n ++ k) ≡ c = cc in
    let q : o9 ≡ x = cc in
    rw (← p, ← q) (record {
      index = hi.rule;
      said = said_again v (octet i 0) (hardware_by a e m s) (number 0 g) t (n ++ k);
      fits = fits_by v low i a e m s g t n k wa ha.size we wm hm.size hs.rule hg.rule wt ht.size ht.rule hn.fit hk.fit;
      again = λ ts y h. again_by v low i a e m s g t n k wm ws wg hi.size he.size hm.size hs.size hg.size hg.rule hn.fit.size ts y
          ∙ rw (h, hk.parts, hn.parts, ht.parts, hg.parts, hs.parts, hm.parts, he.parts, ha.parts) hi.parts;
      behind = hk.behind;
    })

-- 2. What is saved ----------------------------------------------------------------------------------------------------------------------------

-- what a saved controller's fixed part says
unfoldable pub fixed_of : Version → ℕ → Controller → Fixed
fixed_of v i c = record { index = i; radio = (reloaded v c).radio; bondable = c.host.settings.bondable; name = names_back v c.host.name }

-- written twice is written once
flag_twice : (v : Version) (b : Bool) → bredr_flag v (bredr_flag v b) ≡ bredr_flag v b
unfolding bredr_flag
flag_twice One b = refl
flag_twice Two b = refl

-- on only where it is supported, and off only where it is not
as_supported : (b s : Bool) → not b || s ≡ true → b || not s ≡ true → s ≡ b
as_supported true s e f = e
as_supported false true e f = no_way (sym f)
as_supported false false e f = refl

-- BR/EDR comes back, where the version can say it
bredr_back : (v : Version) (r : RadioSettings) (n : ℕ) → can_say v r ≡ true → not r.bredr || bredr_supported r.hardware ≡ true
    → bit 7 n ≡ bredr_flag v r.bredr → bredr_read v r.hardware n ≡ r.bredr
unfolding can_say bredr_as_supported bredr_read bredr_flag
bredr_back One r n e h q = as_supported r.bredr (bredr_supported r.hardware) h e
bredr_back Two r n e h q = q

-- the hardware by its octets
hardware_back : (f : Hardware) → f.manufacturer < 65536 → f.supported < 65536 → hardware_by f.public_address (f.version ∷ []) (be16 f.manufacturer) (be32 f.supported) ≡ f
unfolding hardware_by octet
hardware_back f hm hs = rw (be16_back f.manufacturer hm, be32_back f.supported (omega arith))

-- a fixed part that is written by fields that keep their rules is read
reads_by : (v : Version) (low i : ℕ) (a : Octets) (e : ℕ) (m s g t n k x : Octets) (f : Hardware) (word : ℕ) → hardware_by a (e ∷ []) m s ≡ f → number 0 g ≡ word
    → index_right low i ≡ true → length a ≡ 6 → length m ≡ 2 → length s ≡ 4 → hardware_ok f ≡ true → length g ≡ 4 → flags_right v f word ≡ true → length t ≡ 6 → static_fits f t ≡ true
    → length n ≡ 249 → eqb (octet n 248) 0 ≡ true → length k ≡ 11 → eqb (octet k 10) 0 ≡ true
    → fixed_part v low (i ∷ (a ++ (e ∷ (m ++ (s ++ (g ++ (t ++ (name_image v n ++ (name_image v k ++ x)))))))))
    ≡ right (fixed_by v i f word t (name_back v 249 n ++ name_back v 11 k)) x
unfolding fixed_part octet give free
reads_by v low i a e m s g t n k x f word ef eg ri la lm ls rs lg rg lt rt ln en lk ek =
    then_field 1 BadIndex _ _ (i ∷ []) _ refl ri
    ∙ then_field 6 BadField _ _ a _ la refl
    ∙ then_field 1 BadField _ _ (e ∷ []) _ refl refl
    ∙ then_field 2 BadField _ _ m _ lm refl
    ∙ then_field 4 BadField _ _ s _ ls (rw ef rs)
    ∙ then_field 4 BadField _ _ g _ lg (rw (ef, eg) rg)
    ∙ then_field 6 BadField _ _ t _ lt (rw ef rt)
    ∙ then_name v 249 _ n _ (lit< tt) ln en
    ∙ then_name v 11 _ k x (lit< tt) lk ek
    ∙ rw (ef, eg)

-- the flags of settings that keep their rules are right, and give the settings back
flags_right_lem : (v : Version) (k b : Bool) (r : RadioSettings) → can_say v r ≡ true → not r.bredr || bredr_supported r.hardware ≡ true
    → switches_ok r.hardware r.bredr r.low_energy ≡ true
    → (flags_right v r.hardware (flag_word k b (bredr_flag v r.bredr) r.low_energy) ≡ true)
    × (bredr_read v r.hardware (flag_word k b (bredr_flag v r.bredr) r.low_energy) ≡ r.bredr)
unfolding flags_right
flags_right_lem v k b r say h e =
    let word : ℕ = flag_word k b (bredr_flag v r.bredr) r.low_energy in
    let fl = flags_back k b (bredr_flag v r.bredr) r.low_energy in
    let q : bredr_read v r.hardware word ≡ r.bredr = bredr_back v r word say h fl.seven in
    (rw (fl.one, fl.four, fl.seven, fl.nine, flag_twice v r.bredr, q) (both (eqb_self word) e), q)

-- lengths of numbers
length_be16 : (n : ℕ) → length (be16 n) ≡ 2
unfolding be16
length_be16 n = refl

-- of four octets
length_be32 : (n : ℕ) → length (be32 n) ≡ 4
unfolding be32
length_be32 n = refl

-- the name of a well-formed controller, as two names
pub name_parts : (n : Octets) → length n ≡ 260 → name_ok n ≡ true
    → (length (take 249 n) ≡ 249) × (eqb (octet (take 249 n) 248) 0 ≡ true) × (length (drop 249 n) ≡ 11) × (eqb (octet (drop 249 n) 10) 0 ≡ true)
unfolding name_ok name_ends short_name_ends octet
name_parts n l e =
    let a = and_true (eqb (get_or n 248 0) 0) _ e in
    let p : eqb (get_or (take 249 n) 248 0) 0 ≡ true = rw (get_or-take 249 n 248 0 (lit< tt)) a.0 in
    let q : eqb (get_or (drop 249 n) 10 0) 0 ≡ true = rw (get_or-drop 249 n 10 0) a.1 in
    (length-take-le 249 n (omega arith), p, length-drop 249 n ∙ omega arith, q)

-- the octets of a controller, one part behind the other
image_flat : (v : Version) (i : ℕ) (c : Controller) (x : Octets) → controller_image v i c ++ x
    ≡ i ∷ (c.radio.hardware.public_address ++ (c.radio.hardware.version ∷ (be16 c.radio.hardware.manufacturer ++ (be32 c.radio.hardware.supported
    ++ (be32 (flag_word c.radio.connectable c.host.settings.bondable (bredr_flag v c.radio.bredr) c.radio.low_energy)
    ++ (c.radio.static_address ++ (name_image v (take 249 c.host.name) ++ (name_image v (drop 249 c.host.name) ++ (joined (map table_image c.host.tables) ++ x)))))))))
unfolding controller_image names_image flags_of
image_flat v i c x =
    flat i c.radio.hardware.public_address c.radio.hardware.version (be16 c.radio.hardware.manufacturer) (be32 c.radio.hardware.supported)
    (be32 (flag_word c.radio.connectable c.host.settings.bondable (bredr_flag v c.radio.bredr) c.radio.low_energy)) c.radio.static_address
    (name_image v (take 249 c.host.name)) (name_image v (drop 249 c.host.name)) (joined (map table_image c.host.tables)) x

-- A SAVED FIXED PART IS READ BACK, whatever follows
pub fixed_reads : (v : Version) (low i : ℕ) (c : Controller) (x : Octets) → controller_ok c ≡ true → can_say v c.radio ≡ true → index_right low i ≡ true
    → fixed_part v low (controller_image v i c ++ x) ≡ right (fixed_of v i c) (joined (map table_image c.host.tables) ++ x)
unfolding fixed_of reloaded names_back fixed_by radio_ok
fixed_reads v low i c x e say ri =
    let h = controller_fit c e in
    let w = widths_fit c e in
    let l = lengths c e in
    let f : Hardware = c.radio.hardware in
    let a = and_true (hardware_ok f) _ h.radio in
    let b = and_true (switches_ok f c.radio.bredr c.radio.low_energy) _ a.1 in
    let fl = flags_back c.radio.connectable c.host.settings.bondable (bredr_flag v c.radio.bredr) c.radio.low_energy in
    let word : ℕ = flag_word c.radio.connectable c.host.settings.bondable (bredr_flag v c.radio.bredr) c.radio.low_energy in
    let fr = flags_right_lem v c.radio.connectable c.host.settings.bondable c.radio say (radio_fit c.radio h.radio).bredr b.0 in
    let n = name_parts c.host.name l.name (and_true (eqb (length c.host.name) 260) _ h.name).1 in
    ap (fixed_part v low) (image_flat v i c x)
    ∙ reads_by v low i f.public_address f.version (be16 f.manufacturer) (be32 f.supported) (be32 word) c.radio.static_address (take 249 c.host.name) (drop 249 c.host.name)
    (joined (map table_image c.host.tables) ++ x) f word (hardware_back f (ltb→lt _ _ (rw w.manufacturer tt)) l.supported) (be32_back word fl.small)
    ri l.public_address (length_be16 _) (length_be32 _) a.0 (length_be32 _) fr.0 l.static_address b.1 n.0 n.1 n.2 n.3
    ∙ rw (fl.one, fl.four, fl.nine, fr.1)

-- 3. Right or wrong ---------------------------------------------------------------------------------------------------------------------------

-- what is behind a fixed part ends the octets that were read, behind at least 24 others
pub fixed_leaves : (v : Version) (low : ℕ) (o : Octets) → Leaves 24 o (fixed_part v low o)
unfolding fixed_part
fixed_leaves v low =
    then_leaves 23 1 BadIndex _ _ λ i.
    then_leaves 17 6 BadField _ _ λ a.
    then_leaves 16 1 BadField _ _ λ e.
    then_leaves 14 2 BadField _ _ λ m.
    then_leaves 10 4 BadField _ _ λ s.
    then_leaves 6 4 BadField _ _ λ g.
    then_leaves 0 6 BadField _ _ λ t.
    name_leaves v 249 _ λ n.
    name_leaves v 11 _ λ k.
    give_leaves _
