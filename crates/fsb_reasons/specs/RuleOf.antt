-- The rule that a reason is of.
use Rattle.std.specs.Prelude.{ℕ}
use Rattle.fsb_reasons.specs.declared.reason.Reason.{Reason}
use Rattle.fsb_reasons.specs.declared.reason.Reason.TheVariants.{UnknownLines, AtStart, TooSoon, UnknownBits, Unlawful, QueueFull, Blocked, NotArbitrated, Locked, NoneAsks, NoId, ReplyByOther, IdOfOther, Dropped, Held, LockAlone, ErrorAlone, SnoopsOver, SnoopEarly, SnoopBetween, WriteBackSnooped, ReplySnooped, NothingToAnswer, ResponseEarly, CodeForNone, CodeUnsettled, CodeWrong, ReadyForNone, ReadyUnsettled, ReadyUnwanted, ReadyEarly, ReadyTwice, ResponseUnready, DataForNone, BusyMissing, BusyForNone, UnknownData, ReplyUnawaited, IdTaken, TooMany, AddressParity, RequestParity}

-- the number of the rule, 1 to 20
unfoldable pub rule_of : Reason → ℕ
rule_of (UnknownLines lines) = 1
rule_of AtStart = 2
rule_of (TooSoon before earliest) = 2
rule_of (UnknownBits clock) = 3
rule_of (Unlawful fault) = 3
rule_of (QueueFull in_flight oldest) = 4
rule_of (Blocked clock) = 5
rule_of NotArbitrated = 6
rule_of (Locked holder) = 6
rule_of (NoneAsks clock) = 6
rule_of NoId = 7
rule_of (ReplyByOther winner) = 7
rule_of (IdOfOther did winner) = 7
rule_of (Dropped who) = 8
rule_of (Held who) = 8
rule_of LockAlone = 9
rule_of (ErrorAlone last) = 10
rule_of (SnoopsOver lines) = 11
rule_of (SnoopEarly lines request start) = 11
rule_of (SnoopBetween lines request start) = 11
rule_of (WriteBackSnooped lines request) = 12
rule_of (ReplySnooped lines request) = 12
rule_of (NothingToAnswer number) = 13
rule_of (ResponseEarly request wait earliest) = 13
rule_of (CodeForNone number code) = 14
rule_of (CodeUnsettled request found expected) = 14
rule_of (CodeWrong request snoop_end found expected may_defer) = 14
rule_of (ReadyForNone number) = 15
rule_of (ReadyUnsettled request) = 15
rule_of (ReadyUnwanted request snoop_end) = 15
rule_of (ReadyEarly request wait earliest) = 15
rule_of (ReadyTwice request ready) = 15
rule_of (ResponseUnready request ready earliest) = 15
rule_of (DataForNone last) = 16
rule_of (BusyMissing request response chunks) = 16
rule_of (BusyForNone last) = 16
rule_of (UnknownData bits) = 17
rule_of (ReplyUnawaited did) = 18
rule_of (IdTaken did by) = 18
rule_of (TooMany who outstanding) = 18
rule_of (AddressParity low high) = 19
rule_of RequestParity = 20
