-- The samples of pieces that change some lines alone.
use Rattle.std.proofs.Common.{◌≡◌, ℕ, zero, suc, ◌-◌, Bool, true, false, not, ◌&&◌, ◌==◌, if◌then◌else◌, List, [], ◌∷◌, ◌++◌, length, take, Option, Some, None, All, refl}
use Rattle.std.specs.List.{list_all}
use Rattle.std.proofs.lemmas.Bool.{and_parts, and_from}
use Rattle.std.proofs.lemmas.List.Elements.{All-nil, All-cons}
use Rattle.fsb_signal.specs.declared.sample.Sample.{Sample}
use Rattle.vcd_grammar.specs.Values.{Values, clock_of, sample_of}
use Rattle.vcd_grammar.specs.Tokens.{tokens_of, tokens_so_far}
use Rattle.vcd_grammar.specs.Judging.{is_declared}
use Rattle.vcd_way.specs.Ways.{ValueRules}
use Rattle.vcd_way.specs.Pieces.{Stamp, TapChange, DumpSwitch, Off, On, Happening, Comes, Gets, Switches, Piece, Changes, Switched, pieces_from, over}
use Rattle.vcd_way.specs.Events.{DumpEvent, Sampled, Hole, Resumed, Course, course_at_first, course_after, sampled, at_first_edge, values_after, unknown_in, is_edge, digit_after, sample_in_block, switch_event, events_from, samples_among}
use Rattle.vcd_way.specs.Steps.{first_state, happenings_in}
use Rattle.vcd_way.specs.Answers.{is_early, events_so_far_by, events_by, pieces_in}
use Rattle.scope_wiring.specs.declared.wire.Wire.{Wire}
use Rattle.scope_way.specs.Wired.{wired_lines, wired_way, AreLawfulWires}
use Rattle.scope_write.specs.Samples.{IsSilent}
use Rattle.scope_silent.specs.Lines.{there_in}
use Rattle.scope_silent.proofs.Sample.{Idle, silent}
use Rattle.scope_silent.proofs.Taps.{changes_of, after-idle, unknown-idle, sampled-idle, first-idle}
use Rattle.scope_silent.proofs.Steps.{stays_in, wires-stay}

-- ---- pieces

-- a piece changes these lines alone
abbrev changes_in : List ℕ → Piece → Bool
changes_in ls (Changes stamp block) = list_all (changes_of ls) block
changes_in ls (Switched switch stamp lines) = list_all (is_declared ls) lines

one-more : (ls : List ℕ) (block : List TapChange) (change : TapChange) → list_all (changes_of ls) block ≡ true
    → changes_of ls change ≡ true → list_all (changes_of ls) (block ++ change ∷ []) ≡ true
one-more ls [] change p q = and_from (changes_of ls change) true q refl
one-more ls (x ∷ block) change p q =
    let both = and_parts (changes_of ls x) (list_all (changes_of ls) block) p in
    and_from _ _ both.0 (one-more ls block change both.1 q)

in-pieces : (ls : List ℕ) (stamp : Option Stamp) (block : List TapChange) (hs : List Happening)
    → list_all (changes_of ls) block ≡ true → list_all (stays_in ls) hs ≡ true
    → list_all (changes_in ls) (pieces_from stamp block hs) ≡ true
in-pieces ls stamp block [] p q = and_from (list_all (changes_of ls) block) true p refl
in-pieces ls stamp block (Comes next ∷ hs) p q =
    and_from (list_all (changes_of ls) block) _ p (in-pieces ls (Some next) [] hs refl q)
in-pieces ls stamp block (Gets change ∷ hs) p q =
    let both = and_parts (changes_of ls change) (list_all (stays_in ls) hs) q in
    in-pieces ls stamp (block ++ change ∷ []) hs (one-more ls block change p both.0) both.1
in-pieces ls stamp block (Switches switch lines ∷ hs) p q =
    let both = and_parts (list_all (is_declared ls) lines) (list_all (stays_in ls) hs) q in
    and_from (list_all (changes_of ls) block) _ p
    (and_from (list_all (is_declared ls) lines) _ both.0 (in-pieces ls stamp [] hs refl both.1))

first-pieces : (ls : List ℕ) (n : ℕ) (pieces : List Piece) → list_all (changes_in ls) pieces ≡ true
    → list_all (changes_in ls) (take n pieces) ≡ true
first-pieces ls zero [] h = refl
first-pieces ls zero (x ∷ pieces) h = refl
first-pieces ls (suc n) [] h = refl
first-pieces ls (suc n) (x ∷ pieces) h =
    let both = and_parts (changes_in ls x) (list_all (changes_in ls) pieces) h in
    and_from _ _ both.0 (first-pieces ls n pieces both.1)

-- ---- samples

-- each of some samples is silent
abbrev Each : List ℕ → List Sample → Type 0
Each ls [] = Unit {0}
Each ls (s ∷ w) = IsSilent (there_in ls) s × Each ls w

joined : (ls : List ℕ) (es ds : List DumpEvent) → Each ls (samples_among es) → Each ls (samples_among ds)
    → Each ls (samples_among (es ++ ds))
joined ls [] ds p q = q
joined ls (Sampled s t ∷ es) ds p q = (p.0, joined ls es ds p.1 q)
joined ls (Hole t ∷ es) ds p q = joined ls es ds p q
joined ls (Resumed t ∷ es) ds p q = joined ls es ds p q

each-if : (ls : List ℕ) (b : Bool) (es ds : List DumpEvent) → Each ls (samples_among es) → Each ls (samples_among ds)
    → Each ls (samples_among (if b then es else ds))
each-if ls true es ds p q = p
each-if ls false es ds p q = q

in-block : (ls : List ℕ) (m : ValueRules) (c : Course) (stamp : Option Stamp) (after : Values) → Idle ls c.values
    → Idle ls after → Each ls (samples_among (sample_in_block m c stamp after))
in-block ls m c stamp after h k =
    each-if ls (c.is_seen && is_edge m.edge (clock_of c.values) (clock_of after))
    (Sampled (sample_of (sampled m.late c.values after)) stamp ∷ [])
    (if m.takes_first && not c.is_seen && (clock_of after == digit_after m.edge) then
    Sampled (sample_of (sampled m.late (at_first_edge stamp c.values after) after)) stamp ∷ []
    else [])
    (silent ls (sampled m.late c.values after) (sampled-idle ls m.late c.values after h k), tt)
    (each-if ls (m.takes_first && not c.is_seen && (clock_of after == digit_after m.edge))
    (Sampled (sample_of (sampled m.late (at_first_edge stamp c.values after) after)) stamp ∷ []) [] (
      silent ls (sampled m.late (at_first_edge stamp c.values after) after)
          (sampled-idle ls m.late (at_first_edge stamp c.values after) after (first-idle ls stamp c.values after h k) k),
      tt,
    ) tt)

in-switch : (ls : List ℕ) (switch : DumpSwitch) (stamp : Option Stamp) (es : List DumpEvent)
    → Each ls (samples_among es) → Each ls (samples_among (switch_event switch stamp ∷ es))
in-switch ls Off stamp es h = h
in-switch ls On stamp es h = h

in-events : (ls : List ℕ) (m : ValueRules) (c : Course) (pieces : List Piece) → Idle ls c.values
    → list_all (changes_in ls) pieces ≡ true → Each ls (samples_among (events_from m c pieces))
in-events ls m c [] h p = tt
in-events ls m c (Changes stamp block ∷ pieces) h p =
    let both = and_parts (list_all (changes_of ls) block) (list_all (changes_in ls) pieces) p in
    let after = values_after c.values block in
    let k = after-idle ls c.values block both.0 h in
    joined ls (sample_in_block m c stamp after) (events_from m (course_after c after) pieces)
    (in-block ls m c stamp after h k) (in-events ls m (course_after c after) pieces k both.1)
in-events ls m c (Switched switch stamp lines ∷ pieces) h p =
    let both = and_parts (list_all (is_declared ls) lines) (list_all (changes_in ls) pieces) p in
    in-switch ls switch stamp (events_from m (record c { values = unknown_in c.values lines }) pieces)
    (in-events ls m (record c { values = unknown_in c.values lines }) pieces (unknown-idle ls c.values lines both.0 h) both.1)

-- ---- a text

each-all : (ls : List ℕ) (w : List Sample) → Each ls w → All (IsSilent (there_in ls)) w
each-all ls [] h = All-nil (IsSilent (there_in ls))
each-all ls (s ∷ w) h = All-cons (IsSilent (there_in ls)) s w h.0 (each-all ls w h.1)

pub unwired-silent : (ws : List Wire) (m : ValueRules) (text : List ℕ) → AreLawfulWires ws
    → All (IsSilent (there_in (wired_lines ws))) (samples_among (events_by (wired_way ws m) text))
unfolding events_by events_so_far_by
unwired-silent ws m text fit =
    let ls = wired_lines ws in
    let way = wired_way ws m in
    let whole = in-pieces ls None [] (happenings_in way (first_state way) (tokens_of text)) refl
    (wires-stay ws m (first_state way) (tokens_of text) fit) in
    let first = in-pieces ls None [] (happenings_in way (first_state way) (tokens_so_far text)) refl
    (wires-stay ws m (first_state way) (tokens_so_far text) fit) in
    let pieces = pieces_in way (tokens_so_far text) in
    each-all ls (samples_among (events_by way text))
    (each-if ls (is_early way text) (events_from m course_at_first (over pieces))
    (events_from m course_at_first (pieces_in way (tokens_of text)))
    (in-events ls m course_at_first (over pieces) (λ n out. refl) (first-pieces ls (length pieces - 1) pieces first))
    (in-events ls m course_at_first (pieces_in way (tokens_of text)) (λ n out. refl) whole))
