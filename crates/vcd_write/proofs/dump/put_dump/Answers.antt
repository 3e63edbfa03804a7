use Rattle.std.proofs.Common.{[], ◌++◌, refl, sym, ◌∙◌, ap, append_assoc, append-nil}
use Rattle.std.proofs.lemmas.Result.{on_ok_weaker}
use Rattle.fsb_io.proofs.Interface.{written_none, written_more, written_part}
use Rattle.fsb_signal.specs.DumpText.{header_text, clocks_text}
use Rattle.vcd_write.proofs.Clocks.{dump_text-some, dump_text-none}
use Rattle.vcd_write.proofs.dump.put_dump.Goals as goal

pub returns-in_err-put_header-in-Some-clause-part : goal.returns-in_err-put_header-in-Some-clause-part
returns-in_err-put_header-in-Some-clause-part g c tells =
    let first = c.in-Some.first.now in
    rw (dump_text-some c.args.profile c.args.samples.now first c.in-Some.ensures.value)
    (written_part _ _ (header_text c.args.profile first) (clocks_text c.args.profile 0 first c.args.samples.now)
    _ _ _ (written_none _ _) refl (c.in_err-put_header-in-Some.ensures.part tells))

pub returns-in-None-clause-whole : goal.returns-in-None-clause-whole
returns-in-None-clause-whole g c tells =
    rw (dump_text-none c.args.profile c.args.samples.now c.in-None.ensures.value, sym c.idle_sample.ensures)
    (c.put_header.ensures.whole tells)

pub returns-in-None-clause-part : goal.returns-in-None-clause-part
returns-in-None-clause-part g c tells =
    rw (dump_text-none c.args.profile c.args.samples.now c.in-None.ensures.value, sym c.idle_sample.ensures)
    (c.put_header.ensures.part tells)

pub returns-in_ok-put_header-in-Some-clause-whole : goal.returns-in_ok-put_header-in-Some-clause-whole
returns-in_ok-put_header-in-Some-clause-whole g c tells =
    let first = c.in-Some.first.now in
    let texts = clocks_text c.args.profile 0 first c.args.samples.now in
    rw (dump_text-some c.args.profile c.args.samples.now first c.in-Some.ensures.value)
    (on_ok_weaker c.put_clocks.result
    (λ e. e ∙ ap (λ x. x ++ texts) (c.in_ok-put_header-in-Some.ensures.whole tells)
    ∙ append_assoc _ (header_text c.args.profile first) texts)
    (c.put_clocks.ensures.whole tells))

pub returns-in_ok-put_header-in-Some-clause-part : goal.returns-in_ok-put_header-in-Some-clause-part
returns-in_ok-put_header-in-Some-clause-part g c tells =
    let first = c.in-Some.first.now in
    let texts = clocks_text c.args.profile 0 first c.args.samples.now in
    rw (dump_text-some c.args.profile c.args.samples.now first c.in-Some.ensures.value)
    (written_part _ _ texts [] _ _ _
    (written_more _ _ (header_text c.args.profile first) texts _ _ _ (written_none _ _) refl
    (c.in_ok-put_header-in-Some.ensures.whole tells))
    (sym (append-nil texts)) (c.put_clocks.ensures.part tells))
