-- What is lost at a snoop end, at a reply, and by stores and drops.
use Rattle.std.proofs.Common.{ℕ, ◌+◌, ◌<◌, ◌≡◌, Bool, true, false, ◌&&◌, not, List, [], ◌∷◌, refl, ap, ◌∙◌}
use Rattle.std.specs.List.{Contains, filter, list_all, list_any}
use Rattle.std.proofs.lemmas.Bool.{and_parts}
use Rattle.std.proofs.lemmas.List.Folds.{list_any_at}
use Rattle.fsb_count.specs.Clocks.{all_where, each_where}
use Rattle.fsb_count.proofs.Interface.{each_where-at}
use Rattle.fsb_line.specs.declared.purpose.Purpose.{Purpose}
use Rattle.fsb_line.specs.declared.purpose.Purpose.TheVariants.{Own, Read, Upgrade, WriteBack}
use Rattle.fsb_line.specs.declared.purpose.Settled.TheVariants.{Replied}
use Rattle.fsb_line.specs.declared.state.Mesi.{Mesi}
use Rattle.fsb_line.specs.declared.state.Mesi.TheVariants.{Exclusive, Invalid, Modified, Shared}
use Rattle.fsb_line.specs.States.{is_modified}
use Rattle.fsb_trace.specs.At.{Trace}
use Rattle.fsb_owners.specs.Joint.{Joint, alone, every_joint, has_other_holder, has_other_owner, is_after_drops}
use Rattle.fsb_owners.specs.Joint.{is_after_snoop_end, is_after_stores, is_kept_or_dropped, is_same_joint, is_same_state}
use Rattle.fsb_owners.specs.Joint.{reached_by, sharing, state_at, unheld}
use Rattle.fsb_owners.specs.Possible.{after_unseen, fits_answer, replied_to, settled_at_end, showing}
use Rattle.fsb_owners.specs.Rules.{is_none_left}
use Rattle.fsb_owners.specs.Shown.{is_coming, may_drop_at}
use Rattle.fsb_owner_laws.specs.Losses.{AreCoherent, fits_reply, has_other_sole}
use Rattle.fsb_owner_laws.proofs.Losses.{coherent_reached, is_same, lands, none_reached, any_alike, alike, reached_from}
use Rattle.fsb_owner_laws.proofs.Losses.{reached_where}

-- a test of an answer, at both
abbrev of_both : (Bool → Bool) → Bool
of_both test = test true && test false

of_both-at : (test : Bool → Bool) (b : Bool) → of_both test ≡ true → test b ≡ true
of_both-at test true e = (and_parts (test true) (test false) e).0
of_both-at test false e = (and_parts (test true) (test false) e).1

-- what fits the snoop end of a request of this kind
unfoldable pub fits_end : Bool → Bool → ℕ → Purpose → Joint → Bool
fits_end hit hitm asker Read joint = fits_answer hit hitm asker joint
fits_end hit hitm asker Own joint = fits_answer hit hitm asker joint
fits_end hit hitm asker Upgrade joint = fits_answer hit hitm asker joint
fits_end hit hitm asker WriteBack joint = is_modified (state_at joint asker)

pub showing_fits : (hit hitm : Bool) (asker : ℕ) (kind : Purpose) (set : List Joint)
    → showing hit hitm asker kind set ≡ filter (fits_end hit hitm asker kind) set
unfolding showing fits_end
showing_fits hit hitm asker Read set = refl
showing_fits hit hitm asker Own set = refl
showing_fits hit hitm asker Upgrade set = refl
showing_fits hit hitm asker WriteBack set = refl

-- no joint state that fits the snoop end is lost at it
keeps : Purpose → ℕ → Bool → Bool → Bool → Bool
keeps kind asker hit hitm turned =
    list_all (λ x. is_same (fits_end hit hitm asker kind x
    && lands (is_after_snoop_end asker kind (settled_at_end hitm turned kind) hit) x) (fits_end hit hitm asker kind x)) every_joint

keeps_all : Purpose → ℕ → Bool
keeps_all kind asker = of_both (λ hit. of_both (λ hitm. of_both (λ turned. keeps kind asker hit hitm turned)))

reads_kept : each_where (keeps_all Read) 4 ≡ true
unfolding each_where keeps_all keeps fits_end fits_answer has_other_owner has_other_holder is_after_snoop_end
    is_same_joint is_same_state settled_at_end state_at every_joint sharing alone all_where unheld
reads_kept = refl

owns_kept : each_where (keeps_all Own) 4 ≡ true
unfolding each_where keeps_all keeps fits_end fits_answer has_other_owner has_other_holder is_after_snoop_end
    is_same_joint is_same_state settled_at_end state_at every_joint sharing alone all_where unheld
owns_kept = refl

upgrades_kept : each_where (keeps_all Upgrade) 4 ≡ true
unfolding each_where keeps_all keeps fits_end fits_answer has_other_owner has_other_holder is_after_snoop_end
    is_same_joint is_same_state settled_at_end state_at every_joint sharing alone all_where unheld
upgrades_kept = refl

write_backs_kept : each_where (keeps_all WriteBack) 4 ≡ true
unfolding each_where keeps_all keeps fits_end fits_answer has_other_owner has_other_holder is_after_snoop_end
    is_same_joint is_same_state settled_at_end state_at every_joint sharing alone all_where unheld
write_backs_kept = refl

all_kept : (kind : Purpose) → each_where (keeps_all kind) 4 ≡ true
all_kept Read = reads_kept
all_kept Own = owns_kept
all_kept Upgrade = upgrades_kept
all_kept WriteBack = write_backs_kept

kept_at : (hit hitm turned : Bool) (asker : ℕ) (kind : Purpose) → asker < 4 → keeps kind asker hit hitm turned ≡ true
unfolding keeps_all
kept_at hit hitm turned asker kind l =
    of_both-at (keeps kind asker hit hitm) turned
    (of_both-at (λ hitm. of_both (keeps kind asker hit hitm)) hitm
    (of_both-at (λ hit. of_both (λ hitm. of_both (keeps kind asker hit hitm))) hit (each_where-at (keeps_all kind) 4 (all_kept kind) asker l)))

pub request_keeps : (hit hitm turned : Bool) (asker : ℕ) (kind : Purpose) (set : List Joint) → asker < 4 → AreCoherent set
    → is_none_left (reached_by (is_after_snoop_end asker kind (settled_at_end hitm turned kind) hit) (showing hit hitm asker kind set))
    ≡ is_none_left (showing hit hitm asker kind set)
unfolding keeps
request_keeps hit hitm turned asker kind set l a =
    rw (showing_fits hit hitm asker kind set)
    (reached_from (is_after_snoop_end asker kind (settled_at_end hitm turned kind) hit) (fits_end hit hitm asker kind) set
    (kept_at hit hitm turned asker kind l) a)

-- a reply loses those that it does not fit
loses : Purpose → ℕ → Bool → Bool
loses kind asker hit =
    list_all (λ x. is_same (lands (is_after_snoop_end asker kind Replied hit) x) (fits_reply hit asker kind x)) every_joint

loses_all : ℕ → Bool
loses_all asker =
    of_both (λ hit. loses Read asker hit && loses Own asker hit && loses Upgrade asker hit && loses WriteBack asker hit)

lost_by_replies : each_where loses_all 4 ≡ true
unfolding each_where loses_all loses fits_reply has_other_sole has_other_holder is_after_snoop_end is_same_joint
    is_same_state state_at every_joint sharing alone all_where unheld
lost_by_replies = refl

four_parts : (a b c d : Bool) → (a && b && c && d) ≡ true → (a ≡ true) × (b ≡ true) × (c ≡ true) × (d ≡ true)
four_parts true true true true e = (refl, refl, refl, refl)
four_parts true true true false e = absurd (cc)
four_parts true true false d e = absurd (cc)
four_parts true false c d e = absurd (cc)
four_parts false b c d e = absurd (cc)

lost_of : (kind : Purpose) (asker : ℕ) (hit : Bool)
    → (loses Read asker hit && loses Own asker hit && loses Upgrade asker hit && loses WriteBack asker hit) ≡ true
    → loses kind asker hit ≡ true
lost_of Read asker hit e = (four_parts (loses Read asker hit) (loses Own asker hit) (loses Upgrade asker hit) (loses WriteBack asker hit) e).0
lost_of Own asker hit e = (four_parts (loses Read asker hit) (loses Own asker hit) (loses Upgrade asker hit) (loses WriteBack asker hit) e).1
lost_of Upgrade asker hit e = (four_parts (loses Read asker hit) (loses Own asker hit) (loses Upgrade asker hit) (loses WriteBack asker hit) e).2
lost_of WriteBack asker hit e = (four_parts (loses Read asker hit) (loses Own asker hit) (loses Upgrade asker hit) (loses WriteBack asker hit) e).3

pub reply_keeps : (hit : Bool) (asker : ℕ) (kind : Purpose) (set : List Joint) → asker < 4 → AreCoherent set
    → is_none_left (replied_to asker kind hit set) ≡ is_none_left (filter (fits_reply hit asker kind) set)
unfolding loses loses_all replied_to
reply_keeps hit asker kind set l a =
    reached_where (is_after_snoop_end asker kind Replied hit) (fits_reply hit asker kind) set
    (lost_of kind asker hit (of_both-at (λ hit. loses Read asker hit && loses Own asker hit && loses Upgrade asker hit && loses WriteBack asker hit) hit
    (each_where-at loses_all 4 lost_by_replies asker l))) a

-- a step that leaves each joint state as it may be loses none
some_left : (set : List Joint) → not (list_any (λ x. true) set) ≡ is_none_left set
some_left [] = refl
some_left (x ∷ xs) = refl

stays : (step : Joint → Joint → Bool) → ((x : Joint) → Contains every_joint x → step x x ≡ true)
    → (x : Joint) → Contains every_joint x → lands step x ≡ true
stays step h x e =
    list_any_at (λ to. step x to) every_joint e.0 x e.1 (ap (step x) e.2 ∙ h x e)

kept_by : (step : Joint → Joint → Bool) (set : List Joint) → ((x : Joint) → Contains every_joint x → step x x ≡ true)
    → AreCoherent set → is_none_left (reached_by step set) ≡ is_none_left set
kept_by step set h a =
    none_reached step set ∙ ap not (any_alike (lands step) (λ x. true) set (stays step h) a) ∙ some_left set

pub same_state : (s : Mesi) → is_same_state s s ≡ true
unfolding is_same_state
same_state Invalid = refl
same_state Shared = refl
same_state Exclusive = refl
same_state Modified = refl

joints_same : list_all (λ x. is_same (is_same_joint x x) true) every_joint ≡ true
unfolding is_same_joint is_same_state every_joint sharing alone all_where unheld
joints_same = refl

pub same_joint : (x : Joint) → Contains every_joint x → is_same_joint x x ≡ true
same_joint = alike (λ x. is_same_joint x x) (λ x. true) joints_same

pub stores_stay : (ready : ℕ → Bool) (x : Joint) → Contains every_joint x → is_after_stores ready x x ≡ true
unfolding is_after_stores
stores_stay ready x e = rw (same_joint x e) refl

kept_self : (may : Bool) (s : Mesi) → is_kept_or_dropped may s s ≡ true
unfolding is_kept_or_dropped
kept_self may s = rw (same_state s) refl

pub drops_stay : (may : ℕ → Bool) (x : Joint) → Contains every_joint x → is_after_drops may x x ≡ true
unfolding is_after_drops
drops_stay may x e =
    rw (
      kept_self (may 0) (state_at x 0),
      kept_self (may 1) (state_at x 1),
      kept_self (may 2) (state_at x 2),
      kept_self (may 3) (state_at x 3),
    ) refl

pub unseen_keeps : (v : Trace) (line c : ℕ) (set : List Joint) → AreCoherent set
    → is_none_left (after_unseen v line c set) ≡ is_none_left set
unfolding after_unseen
unseen_keeps v line c set a =
    kept_by (is_after_drops (may_drop_at v line c)) (reached_by (is_after_stores (λ a. not (is_coming v line a (c + 1)))) set)
    (drops_stay (may_drop_at v line c)) (coherent_reached (is_after_stores (λ a. not (is_coming v line a (c + 1)))) set)
    ∙ kept_by (is_after_stores (λ a. not (is_coming v line a (c + 1)))) set
    (stores_stay (λ a. not (is_coming v line a (c + 1)))) a
