-- What tokens make of the reader's state is what the definitions of a text say, block by block.
use Rattle.std.proofs.Common.{◌≡◌, ℕ, ◌<◌, ◌==◌, List, [], ◌∷◌, ◌++◌, length, map, slice_set, slice_index}
use Rattle.std.proofs.Common.{if◌then◌else◌, refl, sym, ap, ◌∙◌, arith, append_assoc, suc, zero}
use Rattle.std.proofs.lemmas.Bool.{ne_eqb}
use Rattle.std.proofs.lemmas.List.{append-nil, length-set, map-set}
use Rattle.fsb_signal.specs.DumpText.{width_of}
use Rattle.vcd_grammar.specs.Tokens.{Token, tokens_of, tokens_so_far}
use Rattle.vcd_grammar.specs.Digits.{extended}
use Rattle.vcd_grammar.specs.Levels.{level_of}
use Rattle.vcd_grammar.specs.Blocks.{Change, Block, BlockEvent, Later, Changed, blocks_from, ended}
use Rattle.vcd_grammar.specs.Values.{Values, at_first, set_line, set_lines, values_behind, clock_of, sample_of}
use Rattle.vcd_grammar.specs.Values.{sample_of_block, samples_in}
use Rattle.vcd_grammar.specs.Judging.{Known, turn, nothing, behind, events_in}
use Rattle.vcd_grammar.specs.Reading.{samples_of, samples_before_end, samples_so_far, first_fault, fault_so_far, or_cut}
use Rattle.vcd_grammar.proofs.Interface.{blocks_some, ended-cons}
use Rattle.vcd_read.specs.Lines.{with_line, with_lines, changed_lines, next_block, block_rises, OpenLines, at_start}
use Rattle.vcd_read.specs.Lines.{after_event, sample_of_end, decided_by, after_events, decided_in}
use Rattle.vcd_read.specs.Taking.{Taken, untaken, decided_of, take_token, take_tokens, samples_in_tokens}
use Rattle.vcd_read.specs.declared.levels.Values.{Values as Kept}

-- what the reader keeps of values
abbrev kept : Values → Kept
kept v = record { levels = map level_of v; clock = clock_of v }

clock_set : (v : Values) (n : ℕ) (x : List ℕ) → 0 < length v
    → (if n == 0 then slice_index x 0 else clock_of v) ≡ clock_of (slice_set v n x)
clock_set [] n x some = absurd (omega (arith, some))
clock_set (y ∷ v) zero x some = refl
clock_set (y ∷ v) (suc n) x some =
    ap (λ t. if t then slice_index x 0 else slice_index y 0) (ne_eqb (suc n) 0 (λ e. omega (arith, e)))

line_kept : (v : Values) (n : ℕ) (digits : List ℕ) → 0 < length v
    → with_line (kept v) n digits ≡ kept (set_line v n digits)
line_kept v n digits some = λ i. record {
  levels = sym (map-set level_of v n (extended (width_of n) digits)) i;
  clock = clock_set v n (extended (width_of n) digits) some i;
}

-- setting a line keeps the signals as many as they are
set_some : (v : Values) (n : ℕ) (digits : List ℕ) → 0 < length v → 0 < length (set_line v n digits)
set_some v n digits some = omega (arith, some, length-set v n (extended (width_of n) digits))

lines_kept : (v : Values) (ns digits : List ℕ) → 0 < length v
    → with_lines (kept v) ns digits ≡ kept (set_lines v ns digits)
lines_kept v [] digits some = refl
lines_kept v (n ∷ ns) digits some =
    ap (λ w. with_lines w ns digits) (line_kept v n digits some)
    ∙ lines_kept (set_line v n digits) ns digits (set_some v n digits some)

lines_some : (v : Values) (ns digits : List ℕ) → 0 < length v → 0 < length (set_lines v ns digits)
lines_some v [] digits some = some
lines_some v (n ∷ ns) digits some = lines_some (set_line v n digits) ns digits (set_some v n digits some)

-- a change behind a block
behind-more : (v : Values) (block : Block) (change : Change)
    → values_behind v (block ++ change ∷ []) ≡ set_lines (values_behind v block) change.lines change.digits
behind-more v [] change = refl
behind-more v (c ∷ block) change = behind-more (set_lines v c.lines c.digits) block change

block_some : (v : Values) (block : Block) → 0 < length v → 0 < length (values_behind v block)
block_some v [] some = some
block_some v (c ∷ block) some = block_some (set_lines v c.lines c.digits) block (lines_some v c.lines c.digits some)

-- what the reader keeps in a block that stands open
abbrev in_block : Values → Block → ℕ → OpenLines
in_block v block decided = record {
  block = record { clock_before = clock_of v; sample_before = sample_of v; now = kept (values_behind v block) };
  decided = decided;
}

-- a change of the block that stands open
same_change : (v : Values) (block : Block) (change : Change) → 0 < length v
    → (in_block v (block ++ change ∷ []) 0).block ≡ changed_lines (in_block v block 0).block change.lines change.digits
same_change v block change some = λ i. record {
  clock_before = clock_of v;
  sample_before = sample_of v;
  now = (ap kept (behind-more v block change)
      ∙ sym (lines_kept (values_behind v block) change.lines change.digits (block_some v block some))) i;
}

-- the count of samples makes no difference to them
decided_any : (l m : OpenLines) (es : List BlockEvent) → l.block ≡ m.block → decided_in l es ≡ decided_in m es
decided_any l m [] h = refl
decided_any l m (Later ∷ es) h =
    λ i. (if block_rises (h i) then (h i).sample_before ∷ [] else []) ++ decided_any (after_event l Later)
    (after_event m Later) es (ap next_block h) i
decided_any l m (Changed change ∷ es) h =
    decided_any (after_event l (Changed change)) (after_event m (Changed change)) es
    (ap (λ b. changed_lines b change.lines change.digits) h)

-- the samples of the blocks that were ended are those that were decided
pub ended_law : (v : Values) (block : Block) (decided : ℕ) (es : List BlockEvent) → 0 < length v
    → samples_in v (ended (blocks_from block es)) ≡ decided_in (in_block v block decided) es
ended_law v block decided [] some = refl
ended_law v block decided (Later ∷ es) some =
    let w = values_behind v block in
    ap (samples_in v) (ended-cons block (blocks_from [] es) (blocks_some [] es))
    ∙ ap (λ xs. sample_of_block v block ++ xs) (ended_law w [] 0 es (block_some v block some)
    ∙ decided_any (in_block w [] 0) (after_event (in_block v block decided) Later) es refl)
ended_law v block decided (Changed change ∷ es) some =
    ended_law v (block ++ change ∷ []) decided es some
    ∙ decided_any (in_block v (block ++ change ∷ []) decided)
    (after_event (in_block v block decided) (Changed change)) es (same_change v block change some)

after_any : (l m : OpenLines) (es : List BlockEvent) → l.block ≡ m.block
    → sample_of_end (after_events l es) ≡ sample_of_end (after_events m es)
after_any l m [] h = λ i. if block_rises (h i) then (h i).sample_before ∷ [] else []
after_any l m (Later ∷ es) h = after_any (after_event l Later) (after_event m Later) es (ap next_block h)
after_any l m (Changed change ∷ es) h =
    after_any (after_event l (Changed change)) (after_event m (Changed change)) es
    (ap (λ b. changed_lines b change.lines change.digits) h)

-- the samples of all blocks are these and that of the last one
pub whole_law : (v : Values) (block : Block) (decided : ℕ) (es : List BlockEvent) → 0 < length v
    → samples_in v (blocks_from block es) ≡ decided_in (in_block v block decided) es
    ++ sample_of_end (after_events (in_block v block decided) es)
whole_law v block decided [] some = append-nil (sample_of_block v block)
whole_law v block decided (Later ∷ es) some =
    let w = values_behind v block in
    let next = after_event (in_block v block decided) Later in
    ap (λ xs. sample_of_block v block ++ xs)
    (whole_law w [] 0 es (block_some v block some)
    ∙ (λ i. decided_any (in_block w [] 0) next es refl i ++ after_any (in_block w [] 0) next es refl i))
    ∙ sym (append_assoc (sample_of_block v block) (decided_in next es) (sample_of_end (after_events next es)))
whole_law v block decided (Changed change ∷ es) some =
    let more = in_block v (block ++ change ∷ []) decided in
    let next = after_event (in_block v block decided) (Changed change) in
    let same = same_change v block change some in
    whole_law v (block ++ change ∷ []) decided es some
    ∙ (λ i. decided_any more next es same i ++ after_any more next es same i)

-- tokens, one after another
pub known_behind : (s : Taken) (ts : List Token) → (take_tokens s ts).known ≡ behind s.known ts
known_behind s [] = refl
known_behind s (t ∷ ts) = known_behind (take_token s t) ts

decided-append : (l : OpenLines) (es fs : List BlockEvent)
    → decided_in l (es ++ fs) ≡ decided_in l es ++ decided_in (after_events l es) fs
decided-append l [] fs = refl
decided-append l (e ∷ es) fs = ap (λ xs. decided_by l e ++ xs) (decided-append (after_event l e) es fs)
    ∙ sym (append_assoc (decided_by l e) (decided_in (after_event l e) es)
    (decided_in (after_events (after_event l e) es) fs))

after-append : (l : OpenLines) (es fs : List BlockEvent)
    → after_events l (es ++ fs) ≡ after_events (after_events l es) fs
after-append l [] fs = refl
after-append l (e ∷ es) fs = after-append (after_event l e) es fs

pub samples_behind : (s : Taken) (ts : List Token) → samples_in_tokens s ts ≡ decided_in s.lines (events_in s.known ts)
samples_behind s [] = refl
samples_behind s (t ∷ ts) =
    ap (λ xs. decided_of s (turn s.known t) ++ xs) (samples_behind (take_token s t) ts)
    ∙ sym (decided-append s.lines (turn s.known t).events (events_in (turn s.known t).known ts))

pub lines_behind : (s : Taken) (ts : List Token)
    → (take_tokens s ts).lines ≡ after_events s.lines (events_in s.known ts)
lines_behind s [] = refl
lines_behind s (t ∷ ts) = lines_behind (take_token s t) ts
    ∙ sym (after-append s.lines (turn s.known t).events (events_in (turn s.known t).known ts))

-- before the first token
start_is : in_block at_first [] 0 ≡ at_start
unfolding level_of
start_is = refl

first_some : 0 < length at_first
first_some = omega arith

-- the samples so far
pub samples_so_far_law : (fed : List ℕ) → samples_so_far fed ≡ samples_in_tokens untaken (tokens_so_far fed)
unfolding samples_so_far
samples_so_far_law fed =
    ended_law at_first [] 0 (events_in nothing (tokens_so_far fed)) first_some
    ∙ ap (λ l. decided_in l (events_in nothing (tokens_so_far fed))) start_is
    ∙ sym (samples_behind untaken (tokens_so_far fed))

-- the samples before the end
pub samples_before_end_law : (text : List ℕ) → samples_before_end text ≡ samples_in_tokens untaken (tokens_of text)
unfolding samples_before_end
samples_before_end_law text =
    ended_law at_first [] 0 (events_in nothing (tokens_of text)) first_some
    ∙ ap (λ l. decided_in l (events_in nothing (tokens_of text))) start_is
    ∙ sym (samples_behind untaken (tokens_of text))

-- all samples
pub samples_of_law : (text : List ℕ)
    → samples_of text ≡ samples_in_tokens untaken (tokens_of text)
    ++ sample_of_end (take_tokens untaken (tokens_of text)).lines
unfolding samples_of
samples_of_law text =
    let es = events_in nothing (tokens_of text) in
    whole_law at_first [] 0 es first_some
    ∙ ap (λ l. decided_in l es ++ sample_of_end (after_events l es)) start_is
    ∙ (λ i. sym (samples_behind untaken (tokens_of text)) i
    ++ sample_of_end (sym (lines_behind untaken (tokens_of text)) i))

-- the faults
pub fault_so_far_law : (fed : List ℕ) → fault_so_far fed ≡ (take_tokens untaken (tokens_so_far fed)).known.fault
unfolding fault_so_far
fault_so_far_law fed = ap (λ (k : Known). k.fault) (sym (known_behind untaken (tokens_so_far fed)))

pub first_fault_law : (text : List ℕ)
    → first_fault text ≡ or_cut (take_tokens untaken (tokens_of text)).known.fault
    (take_tokens untaken (tokens_of text)).known.mode (length text)
unfolding first_fault
first_fault_law text = ap (λ (k : Known). or_cut k.fault k.mode (length text))
    (sym (known_behind untaken (tokens_of text)))
