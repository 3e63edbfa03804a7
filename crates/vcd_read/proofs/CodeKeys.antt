-- The keys of the declared codes in their map.
use Rattle.std.proofs.Common.{◌≡◌, ℕ, ◌+◌, ◌*◌, ◌/◌, ◌%◌, ◌^◌, ◌<◌, ◌≤◌, Bool, true, false, List, [], ◌∷◌}
use Rattle.std.proofs.Common.{◌++◌, length, length-append, drop, ◌==◌, Option, Some, None, option_map, unwrap_or, slice_get}
use Rattle.std.proofs.Common.{get_or, nat_eq, nat_le, nat_lt, Fits, w8, refl, sym, ap, subst, ◌∙◌, arith, suc}
use Rattle.std.proofs.Common.{zero, Vec}
use Rattle.std.specs.Cmp.Lexicographic.{same_text, nat_list_eq_equiv}
use Rattle.std.specs.Map.{lookup}
use Rattle.std.specs.Option.{option_map_or}
use Rattle.std.proofs.Math.Nat.{add-mul-mod_self_left, add-mul-div_left, mod-eq_of_lt, div-eq_of_lt, pow-le-pow_right}
use Rattle.std.proofs.lemmas.Nat.{pow-add}
use Rattle.std.proofs.lemmas.Bool.{ne_eqb, eq-eqb, eqb-true, and_parts, and_from, leb-true, ltb-false, lt-ltb}
use Rattle.std.proofs.lemmas.Bool.{le-ltb, le-leb, false≢true}
use Rattle.std.proofs.lemmas.List.{drop_more, length-drop, get_or-drop}
use Rattle.indexmap.specs.IndexMap.{insert_entry}
use Rattle.vcd_grammar.specs.Words.{same}
use Rattle.vcd_grammar.specs.Codes.{lines_of, with_code}
use Rattle.vcd_read.specs.CodesView.{Agree, CodesKept, LongKept, KeepsLong, KeepsGroups, only_of, with_single, packed}
use Rattle.vcd_read.specs.CodesView.{unpacked, are_places, lines_at, key_of, word_at, coded_by, is_key, codes_of, are_keys, lines_or_none}
use Rattle.vcd_read.proofs.CodeTables.{agree_more}

-- the bytes of a slice
abbrev pub Bytes : List ℕ → Type 0
Bytes bs = (k : ℕ) → Fits w8 (get_or bs k 0)

-- numbers of short codes
packed_some : (bs : List ℕ) → 1 ≤ packed bs
packed_some [] = omega arith
packed_some (b ∷ bs) = omega (arith, packed_some bs)

pub packed_lt : (bs : List ℕ) → Bytes bs → packed bs < 2 ^ (8 * length bs + 1)
packed_lt [] f = omega arith
packed_lt (b ∷ bs) f =
    let h = packed_lt bs (λ k. f (suc k)) in
    let e : 8 * suc (length bs) + 1 ≡ 8 + (8 * length bs + 1) = omega arith in
    rw (e, pow-add 2 8 (8 * length bs + 1)) (omega (arith, h, (f 0).fits))

unpacked_packed : (n : ℕ) (bs : List ℕ) → length bs ≤ n → Bytes bs → unpacked n (packed bs) ≡ bs
unpacked_packed zero [] le f = refl
unpacked_packed zero (b ∷ bs) le f = absurd (omega (arith, le))
unpacked_packed (suc n) [] le f = refl
unpacked_packed (suc n) (b ∷ bs) le f =
    let few = (f 0).fits in
    let more : (b + 256 * packed bs == 1) ≡ false =
    ne_eqb (b + 256 * packed bs) 1 (λ e. omega (arith, e, packed_some bs)) in
    let low : (b + 256 * packed bs) % 256 ≡ b = add-mul-mod_self_left b 256 (packed bs)
    ∙ mod-eq_of_lt {n = b} {m = 256} few in
    let high : (b + 256 * packed bs) / 256 ≡ packed bs = add-mul-div_left b (packed bs) {y = 256} (omega arith)
    ∙ ap (λ q. q + packed bs) (div-eq_of_lt {n = b} {m = 256} few) ∙ omega arith in
    rw (more, low, high) (ap (λ l. b ∷ l) (unpacked_packed n bs (omega (arith, le)) (λ k. f (suc k))))

short_small : (bs : List ℕ) → length bs ≤ 7 → Bytes bs → packed bs < 2 ^ 63
short_small bs le f =
    omega (
      arith,
      packed_lt bs f,
      pow-le-pow_right {n = 2} (omega arith) {i = 8 * length bs + 1} {j = 57}
          (omega (arith, le)),
    )

-- the number of the bytes behind a place
pub packed_more : (code : List ℕ) (left : ℕ) → left < length code
    → get_or code left 0 + 256 * packed (drop (left + 1) code) ≡ packed (drop left code)
packed_more code left h = ap packed (sym (drop_more code left 0 h))

pub packed_small : (code : List ℕ) (left : ℕ) → length code ≤ 7 → 0 < left → Bytes code
    → packed (drop left code) < 2 ^ 49
packed_small code left short some f =
    let rest = length-drop left code in
    let bytes : Bytes (drop left code) = λ k. subst (Fits w8) (sym (get_or-drop left code k 0)) (f (left + k)) in
    omega (
      arith,
      packed_lt (drop left code) bytes,
      pow-le-pow_right {n = 2} (omega arith) {i = 8 * length (drop left code) + 1} {j = 49}
          (omega (arith, rest, short, some)),
    )

none-some : {X : Type 0} {P : Type 0} (x : X) → ◌≡◌ {A = Option X} None (Some x) → P
none-some x h = absurd cc

some-same : (a b : ℕ) → ◌≡◌ {A = Option ℕ} (Some a) (Some b) → a ≡ b
some-same a b h = cc

-- the code of a key
key_code : {A : Type 0} (long : List (Vec ℕ A × ℕ)) (code : List ℕ) (key : ℕ) → Bytes code → LongKept long
    → key_of long code ≡ Some key → coded_by long key ≡ code
key_code long code key f kept h = by (nat_le (length code) 7) refl
  where
    by : (b : Bool) → nat_le (length code) 7 ≡ b → coded_by long key ≡ code
    by true t =
        let short = leb-true (length code) 7 t in
        let key_is : key ≡ packed code = sym (some-same (packed code) key (rw t at h)) in
        let small : nat_lt key (2 ^ 63) ≡ true =
        lt-ltb key (2 ^ 63) (omega (arith, key_is, short_small code short f)) in
        rw (small, key_is) (unpacked_packed 7 code short f)
    by false t =
        let word : word_at long key ≡ Some code = kept.told code key (rw t at h) in
        rw (le-ltb key (2 ^ 63) (kept.within key code word).0, word) refl

-- a key is that of its code
is_key-says : {A : Type 0} (long : List (Vec ℕ A × ℕ)) (key : ℕ) → is_key long key ≡ true
    → key_of long (coded_by long key) ≡ Some key
is_key-says long key h = by (key_of long (coded_by long key)) refl
  where
    by : (o : Option ℕ) → key_of long (coded_by long key) ≡ o → key_of long (coded_by long key) ≡ Some key
    by None t = absurd (false≢true (rw t at h))
    by (Some k) t = t ∙ ap Some (eqb-true k key (rw t at h))

pub is_key-told : {A : Type 0} (long : List (Vec ℕ A × ℕ)) (code : List ℕ) (key : ℕ) → Bytes code → LongKept long
    → key_of long code ≡ Some key → is_key long key ≡ true
is_key-told long code key f kept h = rw (key_code long code key f kept h, h) (eq-eqb key key refl)

-- a key is another's just where their codes are one
same_key : {A : Type 0} (long : List (Vec ℕ A × ℕ)) (code : List ℕ) (key other : ℕ) → Bytes code
    → LongKept long → key_of long code ≡ Some key → is_key long other ≡ true
    → (key == other) ≡ same code (coded_by long other)
same_key long code key other f kept h k = by (same code (coded_by long other)) refl
  where
    by : (b : Bool) → same code (coded_by long other) ≡ b → (key == other) ≡ same code (coded_by long other)
    by true t =
        let one : key_of long code ≡ Some other =
        ap (key_of long) (same_text code (coded_by long other) (sym t)) ∙ is_key-says long other k in
        eq-eqb key other (some-same key other (sym h ∙ one)) ∙ sym t
    by false t =
        ne_eqb key other
        (λ e. false≢true (sym t ∙ ap (same code) (ap (coded_by long) (sym e) ∙ key_code long code key f kept h)
        ∙ nat_list_eq_equiv.refl code)) ∙ sym t

no_key : {A : Type 0} (long : List (Vec ℕ A × ℕ)) (code : List ℕ) (other : ℕ) → key_of long code ≡ None
    → is_key long other ≡ true
    → same code (coded_by long other) ≡ false
no_key long code other h k = by (same code (coded_by long other)) refl
  where
    by : (b : Bool) → same code (coded_by long other) ≡ b → same code (coded_by long other) ≡ false
    by true t = none-some other (sym h ∙ ap (key_of long) (same_text code (coded_by long other) (sym t))
        ∙ is_key-says long other k)
    by false t = t

-- what the map finds are the lines of the code
pub found : {A V : Type 0} (long : List (Vec ℕ A × ℕ)) (at : V → List ℕ) (code : List ℕ) (key : ℕ) (es : List (ℕ × V))
    → Bytes code → LongKept long → key_of long code ≡ Some key
    → are_keys long es ≡ true
    → option_map at (lookup (λ k. nat_eq key k) es) ≡ lines_of (codes_of long at es) code
found long at code key [] f kept h keys = refl
found long at code key (e ∷ es) f kept h keys =
    let p = and_parts _ _ keys in
    let one = same_key long code key e.0 f kept h p.0 in
    by (same code (coded_by long e.0)) refl (one) (found long at code key es f kept h p.1)
  where
    by : (b : Bool) → same code (coded_by long e.0) ≡ b → (key == e.0) ≡ same code (coded_by long e.0)
        → option_map at (lookup (λ k. nat_eq key k) es) ≡ lines_of (codes_of long at es) code
        → option_map at (lookup (λ k. nat_eq key k) (e ∷ es)) ≡ lines_of (codes_of long at (e ∷ es)) code
    by true t one rest = rw (one, t) refl
    by false t one rest = rw (one, t) rest

pub not_found : {A V : Type 0} (long : List (Vec ℕ A × ℕ)) (at : V → List ℕ) (code : List ℕ) (es : List (ℕ × V))
    → key_of long code ≡ None → are_keys long es ≡ true
    → lines_of (codes_of long at es) code ≡ None
not_found long at code [] h keys = refl
not_found long at code (e ∷ es) h keys = let p = and_parts _ _ keys in
    rw (no_key long code e.0 h p.0) (not_found long at code es h p.1)

-- the entries of the map, once the code has got the lines that it had and one more variable's
pub inserted : {A V : Type 0} (long : List (Vec ℕ A × ℕ)) (at : V → List ℕ) (code : List ℕ) (key : ℕ) (lines : V)
    (line : List ℕ) (es : List (ℕ × V)) → Bytes code → LongKept long
    → key_of long code ≡ Some key → are_keys long es ≡ true
    → at lines ≡ lines_or_none (lines_of (codes_of long at es) code) ++ line
    → codes_of long at (insert_entry nat_eq es key lines) ≡ with_code (codes_of long at es) code line
inserted long at code key lines line [] f kept h keys l = λ i. record { code = key_code long code key f kept h i; lines = l i } ∷ []
inserted {A} {V} long at code key lines line (e ∷ es) f kept h keys l =
    let p = and_parts _ _ keys in
    by (same code (coded_by long e.0)) refl (same_key long code key e.0 f kept h p.0)
    (λ k. inserted long at code key lines line es f kept h p.1 k)
  where
    by : (b : Bool) → same code (coded_by long e.0) ≡ b → (key == e.0) ≡ same code (coded_by long e.0)
        → (at lines ≡ lines_or_none (lines_of (codes_of long at es) code) ++ line
        → codes_of long at (insert_entry nat_eq es key lines) ≡ with_code (codes_of long at es) code line)
        → codes_of long at (insert_entry nat_eq (e ∷ es) key lines) ≡ with_code (codes_of long at (e ∷ es)) code line
    by true t one rest = rw (one, t) (let k = rw t at l in
        λ i. record { code = coded_by long e.0; lines = k i } ∷ codes_of long at es)
    by false t one rest =
        rw (one, t) (ap (λ cs. record { code = coded_by long e.0; lines = at e.1 } ∷ cs) (rest (rw t at l)))

pub keys_inserted : {A V : Type 0} (long : List (Vec ℕ A × ℕ)) (key : ℕ) (lines : V) (es : List (ℕ × V))
    → is_key long key ≡ true
    → are_keys long es ≡ true → are_keys long (insert_entry nat_eq es key lines) ≡ true
keys_inserted long key lines [] one keys = and_from _ _ one refl
keys_inserted {A} {V} long key lines (e ∷ es) one keys = let p = and_parts _ _ keys in
    by (key == e.0) refl p.0 (keys_inserted long key lines es one p.1) p.1
  where
    by : (b : Bool) → (key == e.0) ≡ b → is_key long e.0 ≡ true
        → are_keys long (insert_entry nat_eq es key lines) ≡ true → are_keys long es ≡ true
        → are_keys long (insert_entry nat_eq (e ∷ es) key lines) ≡ true
    by true t first rest others = rw t (and_from _ _ first others)
    by false t first rest others = rw t (and_from _ _ first rest)

-- more long codes change nothing of the keys before
code_kept : {A : Type 0} (long new : List (Vec ℕ A × ℕ)) (key : ℕ) → KeepsLong long new → is_key long key ≡ true
    → coded_by new key ≡ coded_by long key
code_kept long new key more h = by (nat_lt key (2 ^ 63)) refl
  where
    by_word : nat_lt key (2 ^ 63) ≡ false → (o : Option (List ℕ)) → word_at long key ≡ o
        → unwrap_or (word_at new key) [] ≡ unwrap_or o []
    by_word past None w =
        let empty : coded_by long key ≡ [] = rw (past, w) refl in
        let one : Some 1 ≡ Some key = sym (ap (key_of long) empty) ∙ is_key-says long key h in
        absurd (omega (arith, some-same 1 key one, ltb-false key (2 ^ 63) past))
    by_word past (Some word) w = rw (more.words key word w) refl

    by : (b : Bool) → nat_lt key (2 ^ 63) ≡ b → coded_by new key ≡ coded_by long key
    by true t = rw t refl
    by false t = rw t (by_word t (word_at long key) refl)

key_kept : {A : Type 0} (long new : List (Vec ℕ A × ℕ)) (code : List ℕ) (key : ℕ) → KeepsLong long new
    → key_of long code ≡ Some key → key_of new code ≡ Some key
key_kept long new code key more h = by (nat_le (length code) 7) refl
  where
    by : (b : Bool) → nat_le (length code) 7 ≡ b → key_of new code ≡ Some key
    by true t = rw t (rw t at h)
    by false t = rw t (more.keys code key (rw t at h))

is_key-kept : {A : Type 0} (long new : List (Vec ℕ A × ℕ)) (key : ℕ) → KeepsLong long new → is_key long key ≡ true
    → is_key new key ≡ true
is_key-kept long new key more h =
    rw (code_kept long new key more h, key_kept long new (coded_by long key) key more (is_key-says long key h))
    (eq-eqb key key refl)

pub keys_kept : {A V : Type 0} (long new : List (Vec ℕ A × ℕ)) (es : List (ℕ × V)) → KeepsLong long new
    → are_keys long es ≡ true → are_keys new es ≡ true
keys_kept long new [] more h = refl
keys_kept long new (e ∷ es) more h = let p = and_parts _ _ h in
    and_from _ _ (is_key-kept long new e.0 more p.0) (keys_kept long new es more p.1)

pub codes_long : {A V : Type 0} (long new : List (Vec ℕ A × ℕ)) (at : V → List ℕ) (es : List (ℕ × V)) → are_keys long es ≡ true
    → KeepsLong long new → codes_of new at es ≡ codes_of long at es
codes_long long new at [] h more = refl
codes_long long new at (e ∷ es) h more =
    let p = and_parts _ _ h in
    λ i. record { code = code_kept long new e.0 more p.0 i; lines = at e.1 } ∷ codes_long long new at es p.1 more i

-- more groups change nothing of the places before
get-more : {X : Type 0} (xs ys : List X) (i : ℕ) → i < length xs → slice_get (xs ++ ys) i ≡ slice_get xs i
get-more [] ys i h = absurd (omega (arith, h))
get-more (x ∷ xs) ys zero h = refl
get-more (x ∷ xs) ys (suc i) h = get-more xs ys i (omega (arith, h))

lines_kept : {A : Type 0} (groups added : List (Vec ℕ A)) (place : ℕ) → place ≤ length groups
    → lines_at (groups ++ added) place ≡ lines_at groups place
lines_kept groups added zero h = refl
lines_kept groups added (suc place) h =
    ap (λ o. option_map_or (λ v. v.items) o []) (get-more groups added place (omega (arith, h)))

codes_grown : {A : Type 0} (long : List (Vec ℕ A × ℕ)) (groups added : List (Vec ℕ A)) (es : List (ℕ × ℕ))
    → are_places groups es ≡ true
    → codes_of long (lines_at (groups ++ added)) es ≡ codes_of long (lines_at groups) es
codes_grown long groups added [] h = refl
codes_grown long groups added (e ∷ es) h =
    let p = and_parts (nat_le e.1 (length groups)) (are_places groups es) h in
    λ i. record { code = coded_by long e.0; lines = lines_kept groups added e.1 (leb-true e.1 (length groups) p.0) i }
    ∷ codes_grown long groups added es p.1 i

places_grown : {A : Type 0} (groups added : List (Vec ℕ A)) (es : List (ℕ × ℕ)) → are_places groups es ≡ true
    → are_places (groups ++ added) es ≡ true
places_grown groups added [] h = refl
places_grown groups added (e ∷ es) h =
    let p = and_parts (nat_le e.1 (length groups)) (are_places groups es) h in
    and_from _ _ (le-leb e.1 (length (groups ++ added))
    (omega (arith, leb-true e.1 (length groups) p.0, length-append groups added)))
    (places_grown groups added es p.1)

places_inserted : {A : Type 0} (groups : List (Vec ℕ A)) (key place : ℕ) (es : List (ℕ × ℕ)) → place ≤ length groups
    → are_places groups es ≡ true → are_places groups (insert_entry nat_eq es key place) ≡ true
places_inserted groups key place [] within h = and_from _ _ (le-leb place (length groups) within) refl
places_inserted {A} groups key place (e ∷ es) within h =
    let p = and_parts (nat_le e.1 (length groups)) (are_places groups es) h in
    by (key == e.0) refl p.0 p.1 (places_inserted groups key place es within p.1)
  where
    by : (b : Bool) → (key == e.0) ≡ b → nat_le e.1 (length groups) ≡ true → are_places groups es ≡ true
        → are_places groups (insert_entry nat_eq es key place) ≡ true
        → are_places groups (insert_entry nat_eq (e ∷ es) key place) ≡ true
    by true t first others rest = rw t (and_from _ _ (le-leb place (length groups) within) others)
    by false t first others rest = rw t (and_from _ _ first rest)

-- the place that a map finds is one
pub place_found : {A : Type 0} (groups : List (Vec ℕ A)) (key : ℕ) (es : List (ℕ × ℕ)) → are_places groups es ≡ true
    → unwrap_or (lookup (λ k. nat_eq key k) es) 0 ≤ length groups
place_found groups key [] h = omega arith
place_found groups key (e ∷ es) h =
    let p = and_parts (nat_le e.1 (length groups)) (are_places groups es) h in
    by (key == e.0) refl p.0 (place_found groups key es p.1)
  where
    by : (b : Bool) → (key == e.0) ≡ b → nat_le e.1 (length groups) ≡ true
        → unwrap_or (lookup (λ k. nat_eq key k) es) 0 ≤ length groups
        → unwrap_or (lookup (λ k. nat_eq key k) (e ∷ es)) 0 ≤ length groups
    by true t first rest = rw t (leb-true e.1 (length groups) first)
    by false t first rest = rw t rest

-- the lines at it are those of the code
pub lines_found : {A : Type 0} (long : List (Vec ℕ A × ℕ)) (groups : List (Vec ℕ A)) (code : List ℕ) (key : ℕ)
    (es : List (ℕ × ℕ)) → Bytes code → LongKept long → key_of long code ≡ Some key → are_keys long es ≡ true
    → lines_at groups (unwrap_or (lookup (λ k. nat_eq key k) es) 0)
    ≡ lines_or_none (lines_of (codes_of long (lines_at groups) es) code)
lines_found long groups code key es f kept h keys =
    by (lookup (λ k. nat_eq key k) es)
    ∙ ap lines_or_none (found long (lines_at groups) code key es f kept h keys)
  where
    by : (o : Option ℕ) → lines_at groups (unwrap_or o 0) ≡ lines_or_none (option_map (lines_at groups) o)
    by None = refl
    by (Some place) = refl

-- what the tables keep, once there are more long codes, more groups, and once a code has got one more variable
pub kept_long : {A : Type 0} (single : List (Option ℕ)) (long new : List (Vec ℕ A × ℕ)) (groups : List (Vec ℕ A))
    (es : List (ℕ × ℕ)) → CodesKept single long groups es → KeepsLong long new → LongKept new
    → CodesKept single new groups es
kept_long single long new groups es kept more whole = record {
  agree = subst (λ cs. Agree single cs) (sym (codes_long long new (lines_at groups) es kept.keys more)) kept.agree;
  keys = keys_kept long new es more kept.keys;
  apart = whole;
  places = kept.places;
}

pub kept_grown : {A : Type 0} (single : List (Option ℕ)) (long : List (Vec ℕ A × ℕ)) (groups new : List (Vec ℕ A))
    (es : List (ℕ × ℕ)) → CodesKept single long groups es → KeepsGroups groups new → CodesKept single long new es
kept_grown single long groups new es kept more =
    subst (λ gs. CodesKept single long gs es) (sym more.appended) (record {
      agree = subst (λ cs. Agree single cs) (sym (codes_grown long groups more.added es kept.places)) kept.agree;
      keys = kept.keys;
      apart = kept.apart;
      places = places_grown groups more.added es kept.places;
    })

pub codes_same : {A : Type 0} (long : List (Vec ℕ A × ℕ)) (groups new : List (Vec ℕ A)) (es : List (ℕ × ℕ))
    → are_places groups es ≡ true → KeepsGroups groups new
    → codes_of long (lines_at new) es ≡ codes_of long (lines_at groups) es
codes_same long groups new es places more =
    ap (λ gs. codes_of long (lines_at gs) es) more.appended ∙ codes_grown long groups more.added es places

pub kept_declared : {A : Type 0} (single : List (Option ℕ)) (long : List (Vec ℕ A × ℕ)) (groups : List (Vec ℕ A))
    (es : List (ℕ × ℕ)) (code line : List ℕ) (key place : ℕ) (only : Option ℕ)
    → Bytes code → key_of long code ≡ Some key → CodesKept single long groups es → place ≤ length groups
    → lines_at groups place ≡ lines_or_none (lines_of (codes_of long (lines_at groups) es) code) ++ line
    → only ≡ only_of (lines_at groups place)
    → CodesKept (with_single single code only) long groups (insert_entry nat_eq es key place)
kept_declared single long groups es code line key place only f h kept within l only_is =
    let at = lines_at groups in record {
      agree = subst (λ cs. Agree (with_single single code only) cs)
          (sym (inserted long at code key place line es f kept.apart h kept.keys l))
          (agree_more single (codes_of long at es) code line (at place) only kept.agree l only_is);
      keys = keys_inserted long key place es (is_key-told long code key f kept.apart h) kept.keys;
      apart = kept.apart;
      places = places_inserted groups key place es within kept.places;
    }
