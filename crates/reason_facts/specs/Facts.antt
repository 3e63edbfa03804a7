-- The numbers of a reason, by names. Each table adds those of its reasons to an object, and nothing for the others.
use Rattle.std.specs.Prelude.{ℕ, ◌-◌, ◌/◌, List, Option, Some, None, codes}
use Rattle.serde_json.specs.Data.{Data, string, array, Items, Members, no_members, put}
use Rattle.fsb_encode.specs.declared.decoding.DecodeFault.{DecodeFault}
use Rattle.fsb_encode.specs.declared.decoding.DecodeFault.TheVariants.{BadCode, BadLen, BadField}
use Rattle.fsb_reasons.specs.declared.reason.Reason.{Reason}
use Rattle.fsb_reasons.specs.declared.reason.Reason.TheVariants.{UnknownLines, TooSoon, UnknownBits, Unlawful, QueueFull, Blocked, Locked, NoneAsks, NoId, ReplyByOther, IdOfOther, Dropped, Held, ErrorAlone, SnoopsOver, SnoopEarly, SnoopBetween, WriteBackSnooped, ReplySnooped, NothingToAnswer, ResponseEarly, CodeForNone, CodeUnsettled, CodeWrong, ReadyForNone, ReadyUnsettled, ReadyUnwanted, ReadyEarly, ReadyTwice, ResponseUnready, DataForNone, BusyMissing, BusyForNone, UnknownData, ReplyUnawaited, IdTaken, TooMany, AddressParity}
use Rattle.fsb_trace.specs.Outcome.{response_code_of}
use Rattle.reason_facts.specs.Unknown.{unknown_facts}
use Rattle.reason_facts.specs.Values.{agent, maybe_agent, with_count, with_flag, with_maybe, with_request, with_snoop, with_wait}

-- with the request whose second clock this is: its first clock
abbrev pub with_first : ℕ → Members → Members
with_first clock ms = with_count (codes "first_clock") (clock - 1) ms

-- with what of a request is not lawful, and the REQ word that was found, where it is that
unfoldable pub with_fault : DecodeFault → Members → Members
with_fault (BadCode code) ms =
    with_count (codes "found") code (put (codes "fault") (string (codes "code")) ms)
with_fault (BadLen len) ms =
    with_count (codes "found") len (put (codes "fault") (string (codes "length")) ms)
with_fault BadField ms = put (codes "fault") (string (codes "field")) ms

-- the reasons of rules 2 to 6
unfoldable pub begin_facts : ℕ → Reason → Members → Members
begin_facts clock (TooSoon before earliest) ms =
    with_count (codes "earliest") earliest (with_count (codes "last_begin") before ms)
begin_facts clock (UnknownBits at) ms = with_count (codes "unknown_at") at (with_first clock ms)
begin_facts clock (Unlawful fault) ms = with_fault fault (with_first clock ms)
begin_facts clock (QueueFull in_flight oldest) ms =
    with_count (codes "oldest") oldest (with_count (codes "in_flight") in_flight ms)
begin_facts clock (Blocked at) ms = with_count (codes "blocked_at") at ms
begin_facts clock (Locked holder) ms =
    put (codes "holder") (maybe_agent holder) (with_count (codes "asked_at") (clock - 2) ms)
begin_facts clock (NoneAsks at) ms = with_count (codes "asked_at") at ms
begin_facts clock _ ms = ms

-- the reasons of rules 7 and 18
unfoldable pub id_facts : ℕ → Reason → Members → Members
id_facts clock NoId ms = with_first clock ms
id_facts clock (ReplyByOther winner) ms = put (codes "winner") (maybe_agent winner) (with_first clock ms)
id_facts clock (IdOfOther did winner) ms =
    put (codes "winner") (maybe_agent winner)
    (with_count (codes "id_agent") (did / 16) (with_count (codes "id") did (with_first clock ms)))
id_facts clock (ReplyUnawaited did) ms = with_count (codes "id") did (with_first clock ms)
id_facts clock (IdTaken did by) ms =
    with_count (codes "taken_by") by (with_count (codes "id") did (with_first clock ms))
id_facts clock (TooMany who outstanding) ms =
    with_count (codes "outstanding") outstanding (put (codes "agent") (agent who) (with_first clock ms))
id_facts clock _ ms = ms

-- the reasons of rules 8, 10 and 19
unfoldable pub line_facts : ℕ → Reason → Members → Members
line_facts clock (Dropped who) ms = put (codes "agent") (agent who) ms
line_facts clock (Held who) ms = put (codes "agent") (agent who) (with_first clock ms)
line_facts clock (ErrorAlone last) ms = with_maybe (codes "last_begin") last ms
line_facts clock (AddressParity low high) ms = with_flag (codes "high") high (with_flag (codes "low") low ms)
line_facts clock _ ms = ms

-- the reasons of rules 11 and 12
unfoldable pub snoop_facts : Reason → Members → Members
snoop_facts (SnoopsOver lines) ms = with_snoop lines ms
snoop_facts (SnoopEarly lines request start) ms =
    with_count (codes "snoop_start") start (with_request request (with_snoop lines ms))
snoop_facts (SnoopBetween lines request start) ms =
    with_count (codes "snoop_start") start (with_request request (with_snoop lines ms))
snoop_facts (WriteBackSnooped lines request) ms = with_request request (with_snoop lines ms)
snoop_facts (ReplySnooped lines request) ms = with_request request (with_snoop lines ms)
snoop_facts _ ms = ms

-- the reasons of rules 13 and 14
unfoldable pub answer_facts : Reason → Members → Members
answer_facts (NothingToAnswer number) ms = with_count (codes "answered") number ms
answer_facts (ResponseEarly request wait earliest) ms =
    with_maybe (codes "earliest") earliest (with_wait wait (with_request request ms))
answer_facts (CodeForNone number code) ms =
    with_count (codes "found") code (with_count (codes "answered") number ms)
answer_facts (CodeUnsettled request found expected) ms =
    with_count (codes "expected") (response_code_of expected)
    (with_count (codes "found") found (with_request request ms))
answer_facts (CodeWrong request snoop_end found expected may_defer) ms =
    with_flag (codes "may_defer") may_defer (with_count (codes "expected") (response_code_of expected)
    (with_count (codes "found") found (with_count (codes "snoop_end") snoop_end (with_request request ms))))
answer_facts _ ms = ms

-- the reasons of rule 15
unfoldable pub ready_facts : Reason → Members → Members
ready_facts (ReadyForNone number) ms = with_count (codes "answered") number ms
ready_facts (ReadyUnsettled request) ms = with_request request ms
ready_facts (ReadyUnwanted request snoop_end) ms =
    with_count (codes "snoop_end") snoop_end (with_request request ms)
ready_facts (ReadyEarly request wait earliest) ms =
    with_maybe (codes "earliest") earliest (with_wait wait (with_request request ms))
ready_facts (ReadyTwice request ready) ms = with_count (codes "ready") ready (with_request request ms)
ready_facts (ResponseUnready request ready earliest) ms =
    with_maybe (codes "earliest") earliest (with_maybe (codes "ready") ready (with_request request ms))
ready_facts _ ms = ms

-- the reasons of rule 16
unfoldable pub data_facts : Reason → Members → Members
data_facts (DataForNone last) ms = with_maybe (codes "last_response") last ms
data_facts (BusyMissing request response chunks) ms =
    with_count (codes "chunks") chunks (with_count (codes "response") response (with_request request ms))
data_facts (BusyForNone last) ms = with_maybe (codes "last_response") last ms
data_facts _ ms = ms

-- all numbers of a reason that holds at this clock
unfoldable pub facts : ℕ → Reason → Members
facts clock reason =
    unknown_facts reason (data_facts reason (ready_facts reason (answer_facts reason (snoop_facts reason
    (line_facts clock reason (id_facts clock reason (begin_facts clock reason no_members)))))))
