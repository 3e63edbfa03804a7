-- Each kind of line reads back.
use Rattle.std.proofs.Common.{◌≡◌, ℕ, ◌+◌, ◌%◌, ◌^◌, ◌<◌, ◌≤◌, true, eqb, List, [], ◌∷◌, ◌++◌, Result, Ok, refl, sym}
use Rattle.std.proofs.Common.{ap, ◌∙◌, arith}
use Rattle.std.specs.Prelude.{◌&&◌, codes, nat_lt, nat_le, IsTrue}
use Rattle.std.specs.List.{list_all}
use Rattle.std.specs.Fmt.{decimal}
use Rattle.std.proofs.lemmas.Bool.{le-leb, leb-true, lt-ltb, ltb-true, and_from, and_parts}
use Rattle.std.proofs.lemmas.List.{append-nil, append_assoc}
use Rattle.fsb_io.specs.NumberText.{hexadecimal}
use Rattle.fsb_access.specs.declared.access.Access.{Access}
use Rattle.fsb_access.specs.declared.access.Access.TheVariants.{Load, Store}
use Rattle.fsb_access.specs.declared.access.Operand.{Operand}
use Rattle.fsb_access.specs.declared.access.Setting.{Setting}
use Rattle.fsb_access.specs.Access.{is_place, fits, number_of, is_lawful_access}
use Rattle.fsb_hazard.specs.declared.line.HazardLine.{HazardLine}
use Rattle.fsb_hazard.specs.declared.line.HazardLine.TheVariants.{Stall, Trdy, Resp, Gap, Retry, Defer, Aerr, Bnr}
use Rattle.fsb_script.specs.declared.fault.Cause.{Cause}
use Rattle.fsb_script.specs.declared.plan.Window.{Window}
use Rattle.fsb_script.specs.Parsing.{◌>>=◌}
use Rattle.fsb_script.specs.Bounds.{is_lawful_window, is_lawful_setting, is_lawful_hazard}
use Rattle.fsb_script.specs.TextWords.{text_lines, next_word, line_ended, decimal_of, decimal_within, address}
use Rattle.fsb_script.specs.TextWords.{decimal_word}
use Rattle.fsb_script.specs.Statements.{keyword, memory_of, profile_of, window_of, load_of, store_of, idle_of}
use Rattle.fsb_script.specs.Statements.{transaction_of, turn_of, count_of, delay_of, block_of}
use Rattle.fsb_script.specs.Text.{setting_text, profile_text, window_text, access_text, idle_text, hazard_text}
use Rattle.fsb_script_laws.specs.LawfulPlans.{is_byte_setting}
use Rattle.fsb_script_laws.specs.LineTexts.{IsLineOf, is_of_one_request}
use Rattle.fsb_script_laws.proofs.Split.{is_inner, decimal_next, decimal_last, decimal_inner, hex_next, hex_last}
use Rattle.fsb_script_laws.proofs.Split.{hex_inner, inner_append, first_line_is}
use Rattle.fsb_script_laws.proofs.MemoryLines.{setting_words, memory_back, setting_line, setting_inner}
use Rattle.fsb_script_laws.proofs.AccessLines.{place_is, load_back, store_back, access_line, access_line_is}
use Rattle.fsb_script_laws.proofs.AccessLines.{access_inner}

-- a line with its line feed is one line
one_line : (line text : List ℕ) → text ≡ line ++ (10 ∷ []) → list_all is_inner line ≡ true → text_lines text ≡ line ∷ []
one_line line text is inner = ap text_lines is ∙ first_line_is line [] inner

within_both : (low high n : ℕ) → low ≤ n → n ≤ high → (nat_le low n && nat_le n high) ≡ true
within_both low high n a b = and_from _ _ (le-leb low n a) (le-leb n high b)

-- a number in its bounds, before more words or at the line's end
within_next : (low high n : ℕ) (rest : List ℕ) → n < 10 ^ 18 → low ≤ n → n ≤ high
    → decimal_within low high (32 ∷ (decimal n ++ (32 ∷ rest))) ≡ Ok (n, 32 ∷ rest)
unfolding decimal_within
within_next low high n rest small a b = rw (decimal_next n (32 ∷ rest) small refl)
    (rw (within_both low high n a b) refl)

within_last : (low high n : ℕ) → n < 10 ^ 18 → low ≤ n → n ≤ high
    → decimal_within low high (32 ∷ decimal n) ≡ Ok (n, [])
unfolding decimal_within
within_last low high n small a b = rw (decimal_last n small) (rw (within_both low high n a b) refl)

-- ---- memory, the profile and the bridge

pub memory_line_back : (s : Setting) → IsTrue (is_lawful_setting s) → IsTrue (is_byte_setting s)
    → IsLineOf (codes "mem") memory_of (setting_text s) (s.addr, s.byte ∷ [])
unfolding keyword next_word
memory_line_back s lawful bytes =
    let below : s.addr < 2 ^ 36 = ltb-true s.addr (2 ^ 36) lawful in
    let small : s.byte < 256 = ltb-true s.byte 256 bytes in (
      codes "mem " ++ setting_words s.addr s.byte,
      (
        one_line (codes "mem " ++ setting_words s.addr s.byte) (setting_text s)
            (sym (append-nil (setting_text s)) ∙ setting_line s.addr s.byte [])
            (setting_inner s.addr s.byte below small),
        memory_back s.addr s.byte below small,
      ),
    )

pub profile_line_back : IsLineOf (codes "profile") profile_of (profile_text 2) 2
unfolding keyword next_word profile_of decimal_within decimal_word decimal_of line_ended
profile_line_back = (codes "profile 2", (refl, refl))

abbrev pub window_words : ℕ → ℕ → List ℕ
window_words base size = hexadecimal base ++ (32 ∷ hexadecimal size)

window_line : (base size : ℕ) → window_text (record { base = base; size = size }) ≡
    (codes "bridge " ++ window_words base size) ++ (10 ∷ [])
unfolding window_text
window_line base size = simp append_assoc

window_back : (base size : ℕ) → base < 2 ^ 36 → eqb (base % 32) 0 ≡ true → 0 < size → eqb (size % 32) 0 ≡ true
    → base + size ≤ 2 ^ 36 → window_of (32 ∷ window_words base size) ≡ Ok (record { base = base; size = size })
unfolding window_of address line_ended
window_back base size below base_whole some size_whole last =
    let wide : base < 16 ^ 16 = omega arith in
    let wide_size : size < 16 ^ 16 = omega arith in
    let size_small : size ≤ 2 ^ 36 = omega arith in
    rw (hex_next base (32 ∷ hexadecimal size) wide refl) (rw (lt-ltb base (2 ^ 36) below) (rw base_whole
    (rw (hex_last size wide_size) (rw (le-leb size (2 ^ 36) size_small)
    (rw (lt-ltb 0 size some) (rw size_whole (rw (le-leb (base + size) (2 ^ 36) last) refl)))))))

-- a line with its line feed stands before the text that follows it
pub line_then : (line text rest : List ℕ) → text ≡ line ++ (10 ∷ []) → text ++ rest ≡ line ++ (10 ∷ rest)
line_then line text rest is = ap (λ (t : List ℕ). t ++ rest) is ∙ append_assoc line (10 ∷ []) rest

pub window_read : (w : Window) → is_lawful_window w ≡ true → window_of (32 ∷ window_words w.base w.size) ≡ Ok w
window_read w lawful =
    let here : (nat_lt w.base (2 ^ 36) && eqb (w.base % 32) 0) ≡ true =
    (and_parts (nat_lt w.base (2 ^ 36) && eqb (w.base % 32) 0)
    ((nat_lt 0 w.size && eqb (w.size % 32) 0) && nat_le (w.base + w.size) (2 ^ 36)) lawful).0 in
    let there : ((nat_lt 0 w.size && eqb (w.size % 32) 0) && nat_le (w.base + w.size) (2 ^ 36)) ≡ true =
    (and_parts (nat_lt w.base (2 ^ 36) && eqb (w.base % 32) 0)
    ((nat_lt 0 w.size && eqb (w.size % 32) 0) && nat_le (w.base + w.size) (2 ^ 36)) lawful).1 in
    let size_is : (nat_lt 0 w.size && eqb (w.size % 32) 0) ≡ true =
    (and_parts (nat_lt 0 w.size && eqb (w.size % 32) 0) (nat_le (w.base + w.size) (2 ^ 36)) there).0 in
    let below : w.base < 2 ^ 36 = ltb-true w.base (2 ^ 36)
    (and_parts (nat_lt w.base (2 ^ 36)) (eqb (w.base % 32) 0) here).0 in
    let some : 0 < w.size = ltb-true 0 w.size (and_parts (nat_lt 0 w.size) (eqb (w.size % 32) 0) size_is).0 in
    let last : w.base + w.size ≤ 2 ^ 36 = leb-true (w.base + w.size) (2 ^ 36)
    (and_parts (nat_lt 0 w.size && eqb (w.size % 32) 0) (nat_le (w.base + w.size) (2 ^ 36)) there).1 in
    window_back w.base w.size below (and_parts (nat_lt w.base (2 ^ 36)) (eqb (w.base % 32) 0) here).1 some
    (and_parts (nat_lt 0 w.size) (eqb (w.size % 32) 0) size_is).1 last

pub window_inner : (w : Window) → is_lawful_window w ≡ true
    → list_all is_inner (codes "bridge " ++ window_words w.base w.size) ≡ true
window_inner w lawful =
    let there : ((nat_lt 0 w.size && eqb (w.size % 32) 0) && nat_le (w.base + w.size) (2 ^ 36)) ≡ true =
    (and_parts (nat_lt w.base (2 ^ 36) && eqb (w.base % 32) 0)
    ((nat_lt 0 w.size && eqb (w.size % 32) 0) && nat_le (w.base + w.size) (2 ^ 36)) lawful).1 in
    let last : w.base + w.size ≤ 2 ^ 36 = leb-true (w.base + w.size) (2 ^ 36)
    (and_parts (nat_lt 0 w.size && eqb (w.size % 32) 0) (nat_le (w.base + w.size) (2 ^ 36)) there).1 in
    let wide : w.base < 16 ^ 16 = omega arith in
    let wide_size : w.size < 16 ^ 16 = omega arith in
    inner_append (codes "bridge ") (window_words w.base w.size) refl
    (inner_append (hexadecimal w.base) (32 ∷ hexadecimal w.size) (hex_inner w.base wide)
    (hex_inner w.size wide_size))

pub window_line_then : (w : Window) (rest : List ℕ)
    → window_text w ++ rest ≡ (codes "bridge " ++ window_words w.base w.size) ++ (10 ∷ rest)
window_line_then w rest = line_then (codes "bridge " ++ window_words w.base w.size) (window_text w) rest
    (window_line w.base w.size)

pub window_line_back : (w : Window) → IsTrue (is_lawful_window w)
    → IsLineOf (codes "bridge") window_of (window_text w) w
unfolding keyword next_word
window_line_back w lawful = (
  codes "bridge " ++ window_words w.base w.size,
  (
    one_line (codes "bridge " ++ window_words w.base w.size) (window_text w) (window_line w.base w.size)
        (window_inner w lawful),
    window_read w lawful,
  ),
)

-- ---- the items of a script

access_one_line : (access : Access) → is_lawful_access access ≡ true
    → text_lines (access_text access) ≡ access_line access ∷ []
access_one_line access lawful = one_line (access_line access) (access_text access)
    (sym (append-nil (access_text access)) ∙ access_line_is access []) (access_inner access lawful)

pub load_line_back : (size addr : ℕ) → IsTrue (is_lawful_access (Load size addr))
    → IsLineOf (codes "ld") load_of (access_text (Load size addr)) (Load size addr)
unfolding keyword next_word
load_line_back size addr lawful = (
  access_line (Load size addr),
  (access_one_line (Load size addr) lawful, load_back size addr (place_is size addr lawful)),
)

pub store_line_back : (size addr : ℕ) (value : Operand) → IsTrue (is_lawful_access (Store size addr value))
    → IsLineOf (codes "st") store_of (access_text (Store size addr value)) (Store size addr value)
unfolding keyword next_word
store_line_back size addr value lawful = (
  access_line (Store size addr value),
  (
    access_one_line (Store size addr value) lawful,
    store_back size addr value (place_is size addr
        (and_parts (is_place size addr) (fits size (number_of value)) lawful).0)
        (and_parts (is_place size addr) (fits size (number_of value)) lawful).1,
  ),
)

pub idle_line : (n : ℕ) → idle_text n ≡ (codes "idle " ++ decimal n) ++ (10 ∷ [])
unfolding idle_text
idle_line n = simp append_assoc

pub idle_back : (n : ℕ) → 1 ≤ n → n ≤ 200000 → idle_of (32 ∷ decimal n) ≡ Ok n
unfolding idle_of line_ended
idle_back n some few =
    let small : n < 10 ^ 18 = omega arith in
    rw (within_last 1 200000 n small some few) refl

pub idle_inner : (n : ℕ) → n ≤ 200000 → list_all is_inner (codes "idle " ++ decimal n) ≡ true
idle_inner n few =
    let small : n < 10 ^ 18 = omega arith in
    inner_append (codes "idle ") (decimal n) refl (decimal_inner n small)

pub idle_line_back : (n : ℕ) → 1 ≤ n → n ≤ 200000 → IsLineOf (codes "idle") idle_of (idle_text n) n
unfolding keyword next_word
idle_line_back n some few = (
  codes "idle " ++ decimal n,
  (one_line (codes "idle " ++ decimal n) (idle_text n) (idle_line n) (idle_inner n few), idle_back n some few),
)

-- ---- hazards

-- what stands behind the number of a request
abbrev turn_words : HazardLine → List ℕ
turn_words (Stall k n) = codes "stall " ++ decimal n
turn_words (Trdy k n) = codes "trdy " ++ decimal n
turn_words (Resp k n) = codes "resp " ++ decimal n
turn_words (Gap k n) = codes "data " ++ decimal n
turn_words (Retry k) = codes "retry"
turn_words (Defer k later) = codes "defer " ++ decimal later
turn_words (Aerr k) = codes "aerr"
turn_words (Bnr from to) = []

abbrev request_of : HazardLine → ℕ
request_of (Stall k n) = k
request_of (Trdy k n) = k
request_of (Resp k n) = k
request_of (Gap k n) = k
request_of (Retry k) = k
request_of (Defer k later) = k
request_of (Aerr k) = k
request_of (Bnr from to) = 0

abbrev pub hazard_words : HazardLine → List ℕ
hazard_words h = decimal (request_of h) ++ (32 ∷ turn_words h)

pub hazard_line_is : (h : HazardLine) → is_of_one_request h ≡ true
    → hazard_text h ≡ (codes "tx " ++ hazard_words h) ++ (10 ∷ [])
unfolding hazard_text
hazard_line_is (Stall k n) is = simp append_assoc
hazard_line_is (Trdy k n) is = simp append_assoc
hazard_line_is (Resp k n) is = simp append_assoc
hazard_line_is (Gap k n) is = simp append_assoc
hazard_line_is (Retry k) is = simp append_assoc
hazard_line_is (Defer k later) is = simp append_assoc
hazard_line_is (Aerr k) is = simp append_assoc
hazard_line_is (Bnr from to) is = absurd cc

request_small : (h : HazardLine) → is_lawful_hazard h ≡ true → is_of_one_request h ≡ true → request_of h ≤ 199999
request_small (Stall k n) lawful is = leb-true k 199999
    (and_parts (nat_le k 199999) (nat_le 1 n && nat_le n 255) lawful).0
request_small (Trdy k n) lawful is = leb-true k 199999
    (and_parts (nat_le k 199999) (nat_le 1 n && nat_le n 255) lawful).0
request_small (Resp k n) lawful is = leb-true k 199999
    (and_parts (nat_le k 199999) (nat_le 1 n && nat_le n 255) lawful).0
request_small (Gap k n) lawful is = leb-true k 199999
    (and_parts (nat_le k 199999) (nat_le 1 n && nat_le n 255) lawful).0
request_small (Retry k) lawful is = leb-true k 199999 lawful
request_small (Defer k later) lawful is = leb-true k 199999 (and_parts (nat_le k 199999) (nat_le later 65535) lawful).0
request_small (Aerr k) lawful is = leb-true k 199999 lawful
request_small (Bnr from to) lawful is = absurd cc

count_back : (k n : ℕ) → (nat_le k 199999 && (nat_le 1 n && nat_le n 255)) ≡ true → count_of (32 ∷ decimal n) ≡ Ok n
unfolding count_of line_ended
count_back k n lawful =
    let two : (nat_le 1 n && nat_le n 255) ≡ true =
    (and_parts (nat_le k 199999) (nat_le 1 n && nat_le n 255) lawful).1 in
    let some : 1 ≤ n = leb-true 1 n (and_parts (nat_le 1 n) (nat_le n 255) two).0 in
    let few : n ≤ 255 = leb-true n 255 (and_parts (nat_le 1 n) (nat_le n 255) two).1 in
    let small : n < 10 ^ 18 = omega arith in
    rw (within_last 1 255 n small some few) refl

later_back : (k n : ℕ) → (nat_le k 199999 && nat_le n 65535) ≡ true → delay_of (32 ∷ decimal n) ≡ Ok n
unfolding delay_of line_ended
later_back k n lawful =
    let few : n ≤ 65535 = leb-true n 65535 (and_parts (nat_le k 199999) (nat_le n 65535) lawful).1 in
    let small : n < 10 ^ 18 = omega arith in
    rw (within_last 0 65535 n small (omega arith) few) refl

-- what a transaction's line says behind the number of its request
abbrev turn_behind : ℕ → List ℕ → Result HazardLine Cause
turn_behind k line = next_word line >>= (λ w. turn_of k w.0 w.1)

turn_back : (h : HazardLine) → is_lawful_hazard h ≡ true → is_of_one_request h ≡ true
    → turn_behind (request_of h) (32 ∷ turn_words h) ≡ Ok h
unfolding next_word turn_of line_ended
turn_back (Stall k n) lawful is = rw (count_back k n lawful) refl
turn_back (Trdy k n) lawful is = rw (count_back k n lawful) refl
turn_back (Resp k n) lawful is = rw (count_back k n lawful) refl
turn_back (Gap k n) lawful is = rw (count_back k n lawful) refl
turn_back (Retry k) lawful is = refl
turn_back (Defer k later) lawful is = rw (later_back k later lawful) refl
turn_back (Aerr k) lawful is = refl
turn_back (Bnr from to) lawful is = absurd cc

pub transaction_back : (h : HazardLine) → is_lawful_hazard h ≡ true → is_of_one_request h ≡ true
    → transaction_of (32 ∷ hazard_words h) ≡ Ok h
unfolding transaction_of
transaction_back h lawful is =
    let most : request_of h ≤ 199999 = request_small h lawful is in
    let small : request_of h < 10 ^ 18 = omega arith in
    rw (within_next 0 199999 (request_of h) (turn_words h) small (omega arith) most) (turn_back h lawful is)

counted : (word : List ℕ) (k n : ℕ) → (nat_le k 199999 && (nat_le 1 n && nat_le n 255)) ≡ true
    → list_all is_inner word ≡ true → list_all is_inner (word ++ decimal n) ≡ true
counted word k n lawful inner =
    let two : (nat_le 1 n && nat_le n 255) ≡ true =
    (and_parts (nat_le k 199999) (nat_le 1 n && nat_le n 255) lawful).1 in
    let few : n ≤ 255 = leb-true n 255 (and_parts (nat_le 1 n) (nat_le n 255) two).1 in
    let small : n < 10 ^ 18 = omega arith in
    inner_append word (decimal n) inner (decimal_inner n small)

turn_inner : (h : HazardLine) → is_lawful_hazard h ≡ true → is_of_one_request h ≡ true
    → list_all is_inner (turn_words h) ≡ true
turn_inner (Stall k n) lawful is = counted (codes "stall ") k n lawful refl
turn_inner (Trdy k n) lawful is = counted (codes "trdy ") k n lawful refl
turn_inner (Resp k n) lawful is = counted (codes "resp ") k n lawful refl
turn_inner (Gap k n) lawful is = counted (codes "data ") k n lawful refl
turn_inner (Retry k) lawful is = refl
turn_inner (Defer k later) lawful is =
    let few : later ≤ 65535 = leb-true later 65535 (and_parts (nat_le k 199999) (nat_le later 65535) lawful).1 in
    let small : later < 10 ^ 18 = omega arith in
    inner_append (codes "defer ") (decimal later) refl (decimal_inner later small)
turn_inner (Aerr k) lawful is = refl
turn_inner (Bnr from to) lawful is = absurd cc

pub transaction_inner : (h : HazardLine) → is_of_one_request h ≡ true → is_lawful_hazard h ≡ true
    → list_all is_inner (codes "tx " ++ hazard_words h) ≡ true
transaction_inner h is lawful =
    let most : request_of h ≤ 199999 = request_small h lawful is in
    let small : request_of h < 10 ^ 18 = omega arith in
    inner_append (codes "tx ") (hazard_words h) refl
    (inner_append (decimal (request_of h)) (32 ∷ turn_words h) (decimal_inner (request_of h) small)
    (turn_inner h lawful is))

pub transaction_line_back : (h : HazardLine) → IsTrue (is_of_one_request h) → IsTrue (is_lawful_hazard h)
    → IsLineOf (codes "tx") transaction_of (hazard_text h) h
unfolding keyword next_word
transaction_line_back h is lawful = (
  codes "tx " ++ hazard_words h,
  (
    one_line (codes "tx " ++ hazard_words h) (hazard_text h) (hazard_line_is h is)
        (transaction_inner h is lawful),
    transaction_back h lawful is,
  ),
)

-- the line of a span of clocks, without its line feed
abbrev pub block_words : ℕ → ℕ → List ℕ
block_words from to = decimal from ++ (32 ∷ decimal to)

pub block_line_is : (from to : ℕ) → hazard_text
    (Bnr from to) ≡ (codes "bnr " ++ (decimal from ++ (32 ∷ decimal to))) ++ (10 ∷ [])
unfolding hazard_text
block_line_is from to = simp append_assoc

block_back : (from to : ℕ) → from ≤ to → to ≤ 199999
    → block_of (32 ∷ (decimal from ++ (32 ∷ decimal to))) ≡ Ok (Bnr from to)
unfolding block_of line_ended
block_back from to order most =
    let small : from < 10 ^ 18 = omega arith in
    let small_to : to < 10 ^ 18 = omega arith in
    let from_most : from ≤ 199999 = omega arith in
    rw (within_next 0 199999 from (decimal to) small (omega arith) from_most)
    (rw (within_last 0 199999 to small_to (omega arith) most) (rw (le-leb from to order) refl))

pub block_read : (from to : ℕ) → is_lawful_hazard (Bnr from to) ≡ true
    → block_of (32 ∷ block_words from to) ≡ Ok (Bnr from to)
block_read from to lawful =
    block_back from to (leb-true from to (and_parts (nat_le from to) (nat_le to 199999) lawful).0)
    (leb-true to 199999 (and_parts (nat_le from to) (nat_le to 199999) lawful).1)

pub block_inner : (from to : ℕ) → is_lawful_hazard (Bnr from to) ≡ true
    → list_all is_inner (codes "bnr " ++ block_words from to) ≡ true
block_inner from to lawful =
    let order : from ≤ to = leb-true from to (and_parts (nat_le from to) (nat_le to 199999) lawful).0 in
    let most : to ≤ 199999 = leb-true to 199999 (and_parts (nat_le from to) (nat_le to 199999) lawful).1 in
    let small : from < 10 ^ 18 = omega arith in
    let small_to : to < 10 ^ 18 = omega arith in
    inner_append (codes "bnr ") (block_words from to) refl
    (inner_append (decimal from) (32 ∷ decimal to) (decimal_inner from small) (decimal_inner to small_to))

pub block_line_back : (from to : ℕ) → IsTrue (is_lawful_hazard (Bnr from to))
    → IsLineOf (codes "bnr") block_of (hazard_text (Bnr from to)) (Bnr from to)
unfolding keyword next_word
block_line_back from to lawful = (
  codes "bnr " ++ block_words from to,
  (
    one_line (codes "bnr " ++ block_words from to) (hazard_text (Bnr from to)) (block_line_is from to)
        (block_inner from to lawful),
    block_read from to lawful,
  ),
)
