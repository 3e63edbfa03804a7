-- What is read of a text, byte by byte.
use Rattle.std.proofs.Common.{◌≡◌, ◌≤◌, ◌<◌, ℕ, ◌+◌, true, false, nat_eq, is_some, unwrap_or, List, [], ◌∷◌, ◌++◌, length, drop, get_or, Option, Some, None, refl, sym, ap, ◌∙◌, append_assoc, append-nil, drop-cons, add-one}
use Rattle.std.proofs.lemmas.List.{drop_all}
use Rattle.scope_wiring.specs.Texts.{Said}
use Rattle.scope_top.specs.Named.{Read, read_behind, read_of, read_on, said_before, said_in_line}

-- these were read of the first bytes of a text, up to a line of this number, of which these bytes came and these are left
pub record ReadSoFar (old now : List Said) (number : ℕ) (open_line left text : List ℕ) : Type 0 where
  pub options : List Said
  pub added : now ≡ old ++ options
  pub whole : read_of text ≡ said_before options (read_behind number open_line left)

-- this is read of the text, whose options stand behind the old ones
pub record IsRead (old now : List Said) (unread : Option ℕ) (text : List ℕ) : Type 0 where
  pub options : now ≡ old ++ (read_of text).options
  pub fault : unread ≡ (read_of text).unread

-- nothing is said before
said_before-none : (r : Read) → said_before [] r ≡ r
unfolding said_before
said_before-none r = refl

-- what is said before and before that
said_before-append : (a b : List Said) (r : Read) → said_before (a ++ b) r ≡ said_before a (said_before b r)
unfolding said_before
said_before-append a b r = rw append_assoc refl

-- the end of the text behind what was read
ended : (old now options : List Said) (unread : Option ℕ) (text : List ℕ) → now ≡ old ++ options →
    read_of text ≡ record { options = options; unread = unread } → IsRead old now unread text
ended old now options unread text added whole = record {
  options = rw whole added;
  fault = rw whole refl;
}

-- at the begin
pub so_far-begin : (old : List Said) (text : List ℕ) → ReadSoFar old old 1 [] text text
unfolding read_of
so_far-begin old text = record {
  options = [];
  added = sym (append-nil old);
  whole = sym (said_before-none (read_behind 1 [] text));
}

-- a byte of a line
behind-byte : (n b : ℕ) (l ts : List ℕ) → nat_eq b 10 ≡ false → read_behind n l (b ∷ ts) ≡ read_behind n (l ++ b ∷ []) ts
unfolding read_behind
behind-byte n b l ts other = rw other refl

-- the end of a line
behind-line : (n b : ℕ) (l ts : List ℕ) → nat_eq b 10 ≡ true →
    read_behind n l (b ∷ ts) ≡ read_on (said_in_line l) n (read_behind (n + 1) [] ts)
unfolding read_behind
behind-line n b l ts ends = rw ends refl

-- the last line
behind-last : (n : ℕ) (l : List ℕ) → read_behind n l [] ≡ read_on (said_in_line l) n (record { options = []; unread = None })
unfolding read_behind
behind-last n l = refl

-- what stands behind what was read of a line
read_on-some : (says : Option (List Said)) (n : ℕ) (r : Read) → is_some says ≡ true →
    read_on says n r ≡ said_before (unwrap_or says []) r
read_on-some (Some os) n r h = refl
read_on-some None n r h = (cc)

-- what stands behind a line that cannot be read
read_on-none : (says : Option (List Said)) (n : ℕ) (r : Read) → is_some says ≡ false →
    read_on says n r ≡ record { options = []; unread = Some n }
read_on-none (Some os) n r h = (cc)
read_on-none None n r h = refl

-- nothing is added by a line that cannot be read
unwrap-none : (says : Option (List Said)) → is_some says ≡ false → unwrap_or says [] ≡ []
unwrap-none (Some os) h = (cc)
unwrap-none None h = refl

-- the bytes that are left at k, if there are any
left-at : (text : List ℕ) (k : ℕ) → k < length text → drop k text ≡ get_or text k 0 ∷ drop (k + 1) text
left-at text k h = rw add-one (drop-cons text k 0 h)

-- a byte of a line was read
pub so_far-byte : (old now : List Said) (n k : ℕ) (l text : List ℕ) → ReadSoFar old now n l (drop k text) text →
    k < length text → nat_eq (get_or text k 0) 10 ≡ false →
    ReadSoFar old now n (l ++ get_or text k 0 ∷ []) (drop (k + 1) text) text
so_far-byte old now n k l text h within other =
    let b = get_or text k 0 in
    record {
      options = h.options;
      added = h.added;
      whole = h.whole ∙ ap (said_before h.options)
          (ap (read_behind n l) (left-at text k within) ∙ behind-byte n b l (drop (k + 1) text) other);
    }

-- what is read at the end of a line
line-at : (n k : ℕ) (l text : List ℕ) → k < length text → nat_eq (get_or text k 0) 10 ≡ true →
    read_behind n l (drop k text) ≡ read_on (said_in_line l) n (read_behind (n + 1) [] (drop (k + 1) text))
line-at n k l text within ends =
    ap (read_behind n l) (left-at text k within) ∙ behind-line n (get_or text k 0) l (drop (k + 1) text) ends

-- a line was read
pub so_far-line : (old now after : List Said) (n k : ℕ) (l text : List ℕ) → ReadSoFar old now n l (drop k text) text →
    k < length text → nat_eq (get_or text k 0) 10 ≡ true → true ≡ is_some (said_in_line l) →
    after ≡ now ++ unwrap_or (said_in_line l) [] → ReadSoFar old after (n + 1) [] (drop (k + 1) text) text
so_far-line old now after n k l text h within ends says more =
    let os = unwrap_or (said_in_line l) [] in
    let r = read_behind (n + 1) [] (drop (k + 1) text) in
    record {
      options = h.options ++ os;
      added = more ∙ ap (λ (x : List Said). x ++ os) h.added ∙ rw append_assoc refl;
      whole = h.whole
          ∙ ap (said_before h.options) (line-at n k l text within ends ∙ read_on-some (said_in_line l) n r (sym says))
          ∙ sym (said_before-append h.options os r);
    }

-- a line cannot be read
pub fault-line : (old now after : List Said) (n k : ℕ) (l text : List ℕ) → ReadSoFar old now n l (drop k text) text →
    k < length text → nat_eq (get_or text k 0) 10 ≡ true → false ≡ is_some (said_in_line l) →
    after ≡ now ++ unwrap_or (said_in_line l) [] → IsRead old after (Some n) text
unfolding said_before
fault-line old now after n k l text h within ends says more =
    let r = read_behind (n + 1) [] (drop (k + 1) text) in
    ended old after h.options (Some n) text
    (more ∙ rw (unwrap-none (said_in_line l) (sym says), append-nil) h.added)
    (h.whole
    ∙ ap (said_before h.options) (line-at n k l text within ends ∙ read_on-none (said_in_line l) n r (sym says))
    ∙ rw append-nil refl)

-- no bytes are left at the end
left-none : (text : List ℕ) (k : ℕ) → length text ≤ k → drop k text ≡ []
left-none text k h = drop_all k text h

-- the last line
last-at : (n k : ℕ) (l text : List ℕ) → length text ≤ k →
    read_behind n l (drop k text) ≡ read_on (said_in_line l) n (record { options = []; unread = None })
last-at n k l text past = ap (read_behind n l) (left-none text k past) ∙ behind-last n l

-- the last line was read
pub read-last : (old now after : List Said) (n k : ℕ) (l text : List ℕ) → ReadSoFar old now n l (drop k text) text →
    length text ≤ k → true ≡ is_some (said_in_line l) → after ≡ now ++ unwrap_or (said_in_line l) [] →
    IsRead old after None text
unfolding said_before
read-last old now after n k l text h past says more =
    let os = unwrap_or (said_in_line l) [] in
    let none : Read = record { options = []; unread = None } in
    ended old after (h.options ++ os) None text
    (more ∙ ap (λ (x : List Said). x ++ os) h.added ∙ rw append_assoc refl)
    (h.whole ∙ ap (said_before h.options) (last-at n k l text past ∙ read_on-some (said_in_line l) n none (sym says))
    ∙ rw append-nil refl)

-- the last line cannot be read
pub fault-last : (old now after : List Said) (n k : ℕ) (l text : List ℕ) → ReadSoFar old now n l (drop k text) text →
    length text ≤ k → false ≡ is_some (said_in_line l) → after ≡ now ++ unwrap_or (said_in_line l) [] →
    IsRead old after (Some n) text
unfolding said_before
fault-last old now after n k l text h past says more =
    let none : Read = record { options = []; unread = None } in
    ended old after h.options (Some n) text
    (more ∙ rw (unwrap-none (said_in_line l) (sym says), append-nil) h.added)
    (h.whole ∙ ap (said_before h.options) (last-at n k l text past ∙ read_on-none (said_in_line l) n none (sym says))
    ∙ rw append-nil refl)
