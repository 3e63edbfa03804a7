-- In the strict way the pieces of a text are its blocks, and their samples the same.
use Rattle.std.proofs.Common.{◌≡◌, ◌-◌, ◌<◌, Bool, true, false, ◌&&◌, ◌==◌, if◌then◌else◌, List, [], ◌∷◌}
use Rattle.std.proofs.Common.{◌++◌, length, take, Option, Some, refl, sym, ap, ◌∙◌, arith, suc}
use Rattle.std.proofs.lemmas.Bool.{or_parts}
use Rattle.fsb_signal.specs.declared.sample.Sample.{Sample}
use Rattle.vcd_grammar.specs.Blocks.{Block, Change, BlockEvent, Later, Changed, blocks_from, ended}
use Rattle.vcd_grammar.specs.Values.{Values, set_lines, values_behind, clock_of, is_rise, sample_of, samples_in}
use Rattle.vcd_grammar.proofs.Interface.{blocks_some, ended-cons}
use Rattle.vcd_way.specs.Pieces.{Stamp, TapChange, Happening, Comes, Gets, Switches, Piece, Changes, pieces_from, over}
use Rattle.vcd_way.specs.Events.{DumpEvent, Sampled, Course, course_after, set_taps, values_after, sample_in_block}
use Rattle.vcd_way.specs.Events.{events_from, samples_among, is_known_digit}
use Rattle.vcd_way.specs.Strict.{strict_rules}

-- a change of lines and one of taps do the same
abbrev pub SameChange : Change → TapChange → Type 0
SameChange c g = (v : Values) → set_lines v c.lines c.digits ≡ set_taps v g.taps g.digits

-- what happens to the lines is the same
abbrev pub Alike : List BlockEvent → List Happening → Type 0
Alike [] [] = Unit {0}
Alike (Later ∷ es) (Comes stamp ∷ hs) = Alike es hs
Alike (Changed c ∷ es) (Gets g ∷ hs) = SameChange c g × Alike es hs
Alike _ _ = ⊥

pub alike-append : (es fs : List BlockEvent) (hs js : List Happening) → Alike es hs → Alike fs js
    → Alike (es ++ fs) (hs ++ js)
alike-append [] fs [] js p q = q
alike-append [] fs (h ∷ hs) js p q = absurd p
alike-append (Later ∷ es) fs [] js p q = absurd p
alike-append (Later ∷ es) fs (Comes stamp ∷ hs) js p q = alike-append es fs hs js p q
alike-append (Later ∷ es) fs (Gets g ∷ hs) js p q = absurd p
alike-append (Later ∷ es) fs (Switches switch lines ∷ hs) js p q = absurd p
alike-append (Changed c ∷ es) fs [] js p q = absurd p
alike-append (Changed c ∷ es) fs (Comes stamp ∷ hs) js p q = absurd p
alike-append (Changed c ∷ es) fs (Gets g ∷ hs) js p q = (p.0, alike-append es fs hs js p.1 q)
alike-append (Changed c ∷ es) fs (Switches switch lines ∷ hs) js p q = absurd p

behind-snoc : (v : Values) (b : Block) (c : Change)
    → values_behind v (b ++ c ∷ []) ≡ set_lines (values_behind v b) c.lines c.digits
behind-snoc v [] c = refl
behind-snoc v (x ∷ b) c = behind-snoc (set_lines v x.lines x.digits) b c

after-snoc : (v : Values) (b : List TapChange) (c : TapChange)
    → values_after v (b ++ c ∷ []) ≡ set_taps (values_after v b) c.taps c.digits
after-snoc v [] c = refl
after-snoc v (x ∷ b) c = after-snoc (set_taps v x.taps x.digits) b c

-- a clock that was never seen is not 0
abbrev pub Unseen : Course → Type 0
Unseen c = c.is_seen ≡ false → (clock_of c.values == 48) ≡ false

unseen-behind : (c : Course) (after : Values) → Unseen (course_after c after)
unseen-behind c after h =
    (or_parts (clock_of after == 48) (clock_of after == 49) (or_parts c.is_seen (is_known_digit (clock_of after)) h).1).0

-- the sample of a block that begins with these values and leaves those
abbrev rise_sample : Values → Values → List Sample
rise_sample before after = if is_rise (clock_of before) (clock_of after) then sample_of before ∷ [] else []

pick : (seen rise : Bool) (a : Sample) (stamp : Option Stamp) (rest : List DumpEvent) → (seen ≡ false → rise ≡ false)
    → samples_among ((if seen && rise then Sampled a stamp ∷ [] else []) ++ rest)
    ≡ (if rise then a ∷ [] else []) ++ samples_among rest
pick true true a stamp rest h = refl
pick true false a stamp rest h = refl
pick false true a stamp rest h = let wrong = h refl in cc wrong
pick false false a stamp rest h = refl

picked : (c : Course) (stamp : Option Stamp) (after : Values) (rest : List DumpEvent) → Unseen c
    → samples_among (sample_in_block strict_rules c stamp after ++ rest) ≡ rise_sample c.values after ++ samples_among rest
picked c stamp after rest h =
    pick c.is_seen (is_rise (clock_of c.values) (clock_of after)) (sample_of c.values) stamp rest
    (λ e. ap (λ x. x && (clock_of after == 49)) (h e))

-- the samples of blocks and of pieces, of which the first stands open
pub alike-samples : (block : Block) (g : List TapChange) (stamp : Option Stamp) (c : Course) (es : List BlockEvent)
    (hs : List Happening) → Unseen c → values_behind c.values block ≡ values_after c.values g → Alike es hs
    → samples_in c.values (blocks_from block es) ≡ samples_among (events_from strict_rules c (pieces_from stamp g hs))
alike-samples block g stamp c [] [] s o a =
    ap (λ w. rise_sample c.values w ++ []) o ∙ sym (picked c stamp (values_after c.values g) [] s)
alike-samples block g stamp c [] (h ∷ hs) s o a = absurd a
alike-samples block g stamp c (Later ∷ es) [] s o a = absurd a
alike-samples block g stamp c (Later ∷ es) (Comes next ∷ hs) s o a =
    let after = values_after c.values g in
    ap (λ w. rise_sample c.values w ++ samples_in w (blocks_from [] es)) o
    ∙ ap (λ ss. rise_sample c.values after ++ ss)
    (alike-samples [] [] (Some next) (course_after c after) es hs (unseen-behind c after) refl a)
    ∙ sym (picked c stamp after (events_from strict_rules (course_after c after) (pieces_from (Some next) [] hs)) s)
alike-samples block g stamp c (Later ∷ es) (Gets y ∷ hs) s o a = absurd a
alike-samples block g stamp c (Later ∷ es) (Switches switch lines ∷ hs) s o a = absurd a
alike-samples block g stamp c (Changed x ∷ es) [] s o a = absurd a
alike-samples block g stamp c (Changed x ∷ es) (Comes next ∷ hs) s o a = absurd a
alike-samples block g stamp c (Changed x ∷ es) (Gets y ∷ hs) s o a =
    let standing = behind-snoc c.values block x
    ∙ ap (λ w. set_lines w x.lines x.digits) o
    ∙ a.0 (values_after c.values g)
    ∙ sym (after-snoc c.values g y) in
    alike-samples (block ++ x ∷ []) (g ++ y ∷ []) stamp c es hs s standing a.1
alike-samples block g stamp c (Changed x ∷ es) (Switches switch lines ∷ hs) s o a = absurd a

-- there is a last piece
pub pieces_some : (stamp : Option Stamp) (g : List TapChange) (hs : List Happening) → 0 < length (pieces_from stamp g hs)
pieces_some stamp g [] = omega arith
pieces_some stamp g (Comes next ∷ hs) = omega (arith, pieces_some (Some next) [] hs)
pieces_some stamp g (Gets y ∷ hs) = pieces_some stamp (g ++ y ∷ []) hs
pieces_some stamp g (Switches switch lines ∷ hs) = omega (arith, pieces_some stamp [] hs)

-- a piece before others is over
pub over-cons : (p : Piece) (ps : List Piece) → 0 < length ps → over (p ∷ ps) ≡ p ∷ over ps
over-cons p ps some =
    let n : length (p ∷ ps) - 1 ≡ suc (length ps - 1) = omega (arith, some) in
    ap (λ k. take k (p ∷ ps)) n

-- the same of those that are over
pub alike-ended : (block : Block) (g : List TapChange) (stamp : Option Stamp) (c : Course) (es : List BlockEvent)
    (hs : List Happening) → Unseen c → values_behind c.values block ≡ values_after c.values g → Alike es hs
    → samples_in c.values (ended (blocks_from block es))
    ≡ samples_among (events_from strict_rules c (over (pieces_from stamp g hs)))
alike-ended block g stamp c [] [] s o a = refl
alike-ended block g stamp c [] (h ∷ hs) s o a = absurd a
alike-ended block g stamp c (Later ∷ es) [] s o a = absurd a
alike-ended block g stamp c (Later ∷ es) (Comes next ∷ hs) s o a =
    let after = values_after c.values g in
    let ps = pieces_from (Some next) [] hs in
    ap (samples_in c.values) (ended-cons block (blocks_from [] es) (blocks_some [] es))
    ∙ ap (λ w. rise_sample c.values w ++ samples_in w (ended (blocks_from [] es))) o
    ∙ ap (λ ss. rise_sample c.values after ++ ss)
    (alike-ended [] [] (Some next) (course_after c after) es hs (unseen-behind c after) refl a)
    ∙ sym (picked c stamp after (events_from strict_rules (course_after c after) (over ps)) s)
    ∙ sym (ap (λ qs. samples_among (events_from strict_rules c qs))
    (over-cons (Changes stamp g) ps (pieces_some (Some next) [] hs)))
alike-ended block g stamp c (Later ∷ es) (Gets y ∷ hs) s o a = absurd a
alike-ended block g stamp c (Later ∷ es) (Switches switch lines ∷ hs) s o a = absurd a
alike-ended block g stamp c (Changed x ∷ es) [] s o a = absurd a
alike-ended block g stamp c (Changed x ∷ es) (Comes next ∷ hs) s o a = absurd a
alike-ended block g stamp c (Changed x ∷ es) (Gets y ∷ hs) s o a =
    let standing = behind-snoc c.values block x
    ∙ ap (λ w. set_lines w x.lines x.digits) o
    ∙ a.0 (values_after c.values g)
    ∙ sym (after-snoc c.values g y) in
    alike-ended (block ++ x ∷ []) (g ++ y ∷ []) stamp c es hs s standing a.1
alike-ended block g stamp c (Changed x ∷ es) (Switches switch lines ∷ hs) s o a = absurd a

-- ---- the strict way tells samples alone

plain : (seen rise : Bool) (a : Sample) (stamp : Option Stamp) (rest : List DumpEvent)
    → length (samples_among rest) ≡ length rest
    → length (samples_among ((if seen && rise then Sampled a stamp ∷ [] else []) ++ rest))
    ≡ length ((if seen && rise then Sampled a stamp ∷ [] else []) ++ rest)
plain true true a stamp rest h = ap (λ n. suc n) h
plain true false a stamp rest h = h
plain false rise a stamp rest h = h

plain-block : (c : Course) (stamp : Option Stamp) (after : Values) (rest : List DumpEvent)
    → length (samples_among rest) ≡ length rest
    → length (samples_among (sample_in_block strict_rules c stamp after ++ rest))
    ≡ length (sample_in_block strict_rules c stamp after ++ rest)
plain-block c stamp after rest h =
    plain c.is_seen (is_rise (clock_of c.values) (clock_of after)) (sample_of c.values) stamp rest h

pub no_holes : (g : List TapChange) (stamp : Option Stamp) (c : Course) (es : List BlockEvent) (hs : List Happening)
    → Alike es hs
    → length (samples_among (events_from strict_rules c (pieces_from stamp g hs)))
    ≡ length (events_from strict_rules c (pieces_from stamp g hs))
no_holes g stamp c [] [] a = plain-block c stamp (values_after c.values g) [] refl
no_holes g stamp c [] (h ∷ hs) a = absurd a
no_holes g stamp c (Later ∷ es) [] a = absurd a
no_holes g stamp c (Later ∷ es) (Comes next ∷ hs) a =
    let after = values_after c.values g in
    plain-block c stamp after (events_from strict_rules (course_after c after) (pieces_from (Some next) [] hs))
    (no_holes [] (Some next) (course_after c after) es hs a)
no_holes g stamp c (Later ∷ es) (Gets y ∷ hs) a = absurd a
no_holes g stamp c (Later ∷ es) (Switches switch lines ∷ hs) a = absurd a
no_holes g stamp c (Changed x ∷ es) [] a = absurd a
no_holes g stamp c (Changed x ∷ es) (Comes next ∷ hs) a = absurd a
no_holes g stamp c (Changed x ∷ es) (Gets y ∷ hs) a = no_holes (g ++ y ∷ []) stamp c es hs a.1
no_holes g stamp c (Changed x ∷ es) (Switches switch lines ∷ hs) a = absurd a
