use Rattle.std.proofs.Common.{◌+◌, ◌^◌, ap, sym, subst, ◌∙◌}
use Rattle.std.specs.BTreeMap.{insert_entry}
use Rattle.vcd_read.specs.CodesView.{LongKept, KeepsLong}
use Rattle.vcd_read.proofs.LongCodes.{by_bytes, absent_of, kept_put, keeps_put}
use Rattle.vcd_read.proofs.codes.key_for.Goals as goal

pub returns-clause-long : goal.returns-clause-long
returns-clause-long c =
    let old = c.args.long.now.entries in
    let word = c.in_ok-word.word in
    let absent = absent_of old c.args.code.now word.items (sym c.key_of.ensures ∙ c.in_default.is) c.in_ok-word.ensures in
    let put = c.in_ok-insert.ensures.entries ∙ ap (λ n. insert_entry by_bytes old word (2 ^ 63 + n)) c.len.ensures.len in
    subst (λ es. KeepsLong old es) (sym put) (keeps_put old word c.requires absent)

pub returns-clause-kept : goal.returns-clause-kept
returns-clause-kept c =
    let old = c.args.long.now.entries in
    let word = c.in_ok-word.word in
    let absent = absent_of old c.args.code.now word.items (sym c.key_of.ensures ∙ c.in_default.is) c.in_ok-word.ensures in
    let put = c.in_ok-insert.ensures.entries ∙ ap (λ n. insert_entry by_bytes old word (2 ^ 63 + n)) c.len.ensures.len in
    subst (λ es. LongKept es) (sym put) (kept_put old word c.requires absent)
