-- What a look says of the lines and words of its clock and of those before it.
use Rattle.std.proofs.Common.{ℕ, zero, suc, ◌+◌, ◌-◌, ◌≤◌, ◌≡◌, Bool, true, false, ◌&&◌, not, nat_le, Option, Some}
use Rattle.std.proofs.Common.{slice_get, refl, sym, ap, ◌∙◌, arith}
use Rattle.std.specs.Option.{option_and_then, option_map_or}
use Rattle.std.proofs.lemmas.Bool.{and_right, le-leb, lt-ltb}
use Rattle.fsb_count.specs.Options.{is_some_and}
use Rattle.fsb_signal.specs.declared.lines.Lines.{Lines}
use Rattle.fsb_signal.specs.declared.lines.TheConstants.Lines.{ADS, DRDY}
use Rattle.fsb_signal.specs.declared.marks.Marks.{Marks}
use Rattle.fsb_signal.specs.declared.sample.Sample.{Sample}
use Rattle.fsb_signal.specs.Parity.{is_address_odd, is_request_odd}
use Rattle.fsb_signal.specs.Samples.{has_line, line_at, is_known_word}
use Rattle.fsb_encode.specs.declared.request.Pair.{Pair}
use Rattle.fsb_encode.specs.declared.request.Request.{Request}
use Rattle.fsb_encode.specs.Decoded.{request_of}
use Rattle.fsb_trace.specs.declared.who.Who.{Who}
use Rattle.fsb_trace.specs.At.{Trace, line_back, known_pair, known_pair_at, request_at}
use Rattle.fsb_trace.specs.Winner.{begins_at, is_agent, winner_at, requesters_before}
use Rattle.fsb_trace.specs.Rules.{has_parity_at, has_unknown_data, is_address_parity_wrong, is_request_parity_wrong}
use Rattle.fsb_trace.specs.Rules.{is_marked_address_wrong, is_marked_request_wrong}
use Rattle.fsb_trace.proofs.Interface.{winner_after-low}
use Rattle.fsb_why.specs.Look.{sample_back}

pub line_here : (line : Lines) (v : Trace) (c : ℕ) (x : Sample) → slice_get v c ≡ Some x → line_at line v c ≡ has_line x line
unfolding line_at
line_here line v c x e = rw e refl

pub pair_here : (v : Trace) (c : ℕ) (x : Sample) → slice_get v c ≡ Some x → known_pair_at v c ≡ known_pair x
unfolding known_pair_at
pair_here v c x e = rw e refl

back_cases : (line : Lines) (v : Trace) (c d : ℕ) (b : Bool) → nat_le d c ≡ b
    → option_map_or (λ s. has_line s line) (sample_back v c d) false ≡ line_back line v c d
unfolding sample_back line_back line_at
back_cases line v c d true e = rw e refl
back_cases line v c d false e = rw e refl

pub back_here : (line : Lines) (v : Trace) (c d : ℕ) (o : Option Sample) → o ≡ sample_back v c d
    → option_map_or (λ s. has_line s line) o false ≡ line_back line v c d
back_here line v c d o e =
    ap (λ x. option_map_or (λ s. has_line s line) x false) e ∙ back_cases line v c d (nat_le d c) refl

pub pair_before : (v : Trace) (c : ℕ) (o : Option Sample) → o ≡ sample_back v c 1 → 1 ≤ c
    → option_and_then known_pair o ≡ known_pair_at v (c - 1)
unfolding sample_back known_pair_at
pair_before v c o e l = ap (option_and_then known_pair) (rw (le-leb 1 c l) at e)

pub request_is : (v : Trace) (c : ℕ) (a b : Option Pair) → 1 ≤ c → a ≡ known_pair_at v (c - 1) → b ≡ known_pair_at v c
    → option_and_then {U = Request} (λ x. option_and_then {U = Request} (λ y. request_of x y) b) a ≡ request_at v (c - 1)
unfolding request_at
request_is v c a b l e f =
    let same : c - 1 + 1 ≡ c = omega (arith, l) in rw (e, f, same) refl

-- an agent begins a request one clock before
began-cases : (v : Trace) (c : ℕ) (who : Who) → (line_back ADS v c 1 && is_agent (winner_at v (c - 1)) who)
    ≡ begins_at v (c - 1) who
unfolding begins_at line_back winner_at is_agent is_some_and
began-cases v zero who =
    let none = winner_after-low v 0 (requesters_before v 0) (lt-ltb 0 2 (omega arith)) in
    sym (and_right (line_at ADS v 0) _ (rw none refl))
began-cases v (suc k) who = rw (le-leb 1 (suc k) (omega arith)) refl

pub began-is : (v : Trace) (c : ℕ) (who : Who) (w : Option Who) (a b : Bool) → a ≡ line_back ADS v c 1
    → b ≡ is_agent w who → w ≡ winner_at v (c - 1) → (a && b) ≡ begins_at v (c - 1) who
began-is v c who w a b e f g = rw (e, f, g) (began-cases v c who)

pub both-are : (a b x y : Bool) → a ≡ x → b ≡ y → (a && b) ≡ (x && y)
both-are a b x y e f = rw (e, f) refl

pub not-is : (a b x : Bool) → a ≡ not b → b ≡ x → a ≡ not x
not-is a b x e f = e ∙ ap not f

pub data-is : (v : Trace) (c : ℕ) (x : Sample) (a b : Bool) → slice_get v c ≡ Some x → a ≡ line_at DRDY v c
    → b ≡ not (is_known_word x.dbus) → (a && b) ≡ has_unknown_data v c
unfolding has_unknown_data
data-is v c x a b s e f = rw (s, e, f) refl

pub address_parity-is : (m n : Marks) (v : Trace) (c : ℕ) (x : Sample) (a b : Bool) → n ≡ m → slice_get v c ≡ Some x
    → a ≡ has_parity_at v c → b ≡ is_address_odd x → (n.ap && (a && b)) ≡ is_marked_address_wrong m v c
unfolding is_marked_address_wrong is_address_parity_wrong
address_parity-is m n v c x a b o s e f = rw (o, s, e, f) refl

pub request_parity-is : (m n : Marks) (v : Trace) (c : ℕ) (x : Sample) (a b : Bool) → n ≡ m → slice_get v c ≡ Some x
    → a ≡ has_parity_at v c → b ≡ is_request_odd x → (n.rp && (a && b)) ≡ is_marked_request_wrong m v c
unfolding is_marked_request_wrong is_request_parity_wrong
request_parity-is m n v c x a b o s e f = rw (o, s, e, f) refl
