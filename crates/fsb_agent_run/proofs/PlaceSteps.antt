-- The place of a view in its script, one clock further.
use Rattle.fsb_agent_run.proofs.Words
use Words.{ℕ, ◌+◌, ◌<◌, ◌≤◌, ◌≡◌, false, not, ◌&&◌, ◌||◌, List, length, Option, Some, refl, sym, ap, ◌∙◌, arith}
use Words.{option_map, option_map_or, first_where-found, Item, Done, Past, completes_at, idle_clocks, idle_start}
use Words.{is_logged, is_logged_at, is_to_do, items_of, last_done, next_number, number_after, is_logged-more}
use Words.{next_number-same, AgentView, completed_by, idle_from, place_from, CompletesItem, IsAgentOf, IsPlacedIn}
use Words.{finished_by, idle_end, place_of}
use Rattle.fsb_agent_run.proofs.LastEntries.{last-over}
use Rattle.fsb_agent_run.proofs.IdleItems.{idles-from, is_busy, next-from}

-- where an agent idles up to, by its last entry and its next item
abbrev end_with : List Item → Option Done → Option ℕ → ℕ
end_with items last next =
    option_map_or (λ done. done.clock + 1) last 0
    + idle_clocks items (option_map_or (λ done. done.item + 1) last 0) (place_of items next)

end-is : (p : Past) (a c : ℕ) → idle_end p a c ≡ end_with (items_of p a) (last_done p a c) (next_number p a c)
unfolding idle_start number_after
end-is p a c = refl

-- without an entry it stays
pub place-quiet : (p : Past) (a c : ℕ) (v : AgentView) → completes_at p a c ≡ false → IsPlacedIn p a c v
    → IsPlacedIn p a (c + 1) v
place-quiet p a c v e h = grind (arith, next_number-same, last-over, end-is)

to-do-more : (p : Past) (a c n : ℕ)
    → is_to_do p a (c + 1) n ≡ (is_busy (items_of p a) n && not (is_logged p a c n || is_logged_at p a c n))
unfolding is_to_do
to-do-more p a c n = ap (λ b. is_busy (items_of p a) n && not b) (is_logged-more p a c n)

-- what was not to do is not to do at the next clock
done-stays : (p : Past) (a c n : ℕ) → is_to_do p a c n ≡ false → is_to_do p a (c + 1) n ≡ false
unfolding is_to_do
done-stays p a c n e = grind (arith, to-do-more)

-- up to the completed item nothing is to do, and behind it what is busy
to-do-below : (p : Past) (a c number n : ℕ) → CompletesItem p a c number → n < number + 1
    → is_to_do p a (c + 1) n ≡ false
unfolding next_number
to-do-below p a c number n k l = grind (arith, done-stays, first_where-found, to-do-more)

to-do-behind : (p : Past) (a c number n : ℕ) → CompletesItem p a c number → number + 1 ≤ n
    → is_to_do p a (c + 1) n ≡ is_busy (items_of p a) n
to-do-behind p a c number n k l = grind (arith, to-do-more)

next-then : (p : Past) (a c number : ℕ) → CompletesItem p a c number
    → place_of (items_of p a) (next_number p a (c + 1)) ≡ place_from (items_of p a) (number + 1)
unfolding next_number
next-then p a c number k =
    let within = (first_where-found (is_to_do p a c) (length (items_of p a)) number k.next).0 in
    next-from (is_to_do p a (c + 1)) (items_of p a) (number + 1) (omega arith) (λ n l. to-do-below p a c number n k l)
    (λ n l. to-do-behind p a c number n k l)

end-then : (p : Past) (a c number : ℕ) → CompletesItem p a c number
    → idle_end p a (c + 1) ≡ c + 1 + idle_from (items_of p a) (number + 1)
unfolding idle_start number_after
end-then p a c number k =
    let last = k.is_last in
    let clock = k.last_clock in
    let item = k.last_item in
    let place = next-then p a c number k in
    (λ i. option_map_or (λ done. done.clock + 1) (last i) 0
    + idle_clocks (items_of p a) (option_map_or (λ done. done.item + 1) (last i) 0) (place i))
    ∙ (λ i. clock i + 1 + idle_clocks (items_of p a) (item i + 1) (place_from (items_of p a) (number + 1)))
    ∙ ap (λ n. c + 1 + n) (idles-from (items_of p a) (number + 1))

-- where the next item is completed it goes on
pub place-completed : (p : Past) (a c number : ℕ) (v : AgentView) → CompletesItem p a c number → IsAgentOf p a v
    → IsPlacedIn p a c v → IsPlacedIn p a (c + 1) (completed_by v c)
place-completed p a c number v k is h =
    let place : v.place ≡ number = h.place ∙ ap (place_of (items_of p a)) k.next in
    let items = is.items in
    let clock = k.last_clock in
    let item = k.last_item in
    record {
      place = (λ i. place_from (items i) (place i + 1)) ∙ sym (next-then p a c number k);
      idle_to = (λ i. c + 1 + idle_from (items i) (place i + 1)) ∙ sym (end-then p a c number k);
      finished = (λ i. Some (record { clock = sym clock i; item = (place ∙ sym item) i }))
          ∙ sym (ap (option_map finished_by) k.is_last);
    }
