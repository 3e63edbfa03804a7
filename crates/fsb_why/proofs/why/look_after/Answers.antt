use Rattle.std.proofs.Common.{sym, subst, ◌≡◌, length, arith, [], ◌∷◌, ◌++◌}
use Rattle.fsb_why.specs.Look.{SaysLast, Shows}
use Rattle.fsb_why.proofs.Next.{empty}
use Rattle.fsb_why.proofs.why.look_after.Goals as goal

pub next-requires : goal.next-requires
next-requires c =
    let p = c.requires in
    let s = subst (λ o. SaysLast o p.0 p.1) c.in-Some.is p.2 in
    omega (arith, s.size, p.3)

pub returns-in-Some : goal.returns-in-Some
returns-in-Some c = λ m h e says won. c.next.ensures m h (subst (λ o. SaysLast o m h) c.in-Some.is says) won

pub returns-in-None : goal.returns-in-None
returns-in-None c = λ m h e says won.
    let none : length h ≡ 0 = subst (λ o. SaysLast o m h) c.in-None.is says in
    let first = subst (λ k. Shows c.first_look.result k (c.args.sample.now ∷ [])) e c.first_look.ensures in
    subst (λ k. Shows c.first_look.result m (k ++ c.args.sample.now ∷ [])) (sym (empty h none)) first
