-- An agent owes nothing before any event.
use Rattle.fsb_agent_run.proofs.Words
use Words.{ℕ, refl, any_where, count_where, last_where, is_some_and, latest_grant, Past, items_of, first_view}
use Words.{HasBytesOwed, is_given_below, is_pushed, promise_told, is_awaited}

pub first-owed : (p : Past) (a : ℕ)
    → HasBytesOwed p a 0 0 0 (first_view a (items_of p a) p.plan.cache p.plan.ahead p.plan.profile)
unfolding is_pushed is_given_below promise_told is_awaited latest_grant any_where count_where last_where is_some_and
first-owed p a = record { pushes = λ q. refl; promises = λ line. refl; count = refl }
