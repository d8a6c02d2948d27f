-- Worked examples, which compute: two workers on the coin. Tails is the start, heads the goal; one action, which costs one unit,
-- shows heads with chance 1/2. Giving up costs ten units.
use Rattle.std.specs.Prelude.{◌≡◌, true, false, Some, List, [], ◌∷◌, refl}
use Rattle.fixed_round.specs.Words.{word_of}
use Rattle.ground_model.specs.Coin.{coin, tails, heads}
use Rattle.bound_core.specs.declared.codes.TheConstants.{AT_GOAL, GIVE_UP}
use Rattle.bound_core.specs.declared.event.Event.{Event}
use Rattle.bound_core.specs.declared.event.Event.TheVariants.{SeeUpper, Raise, Sink, Claim, Write, Publish, Split, Join}
use Rattle.bound_core.specs.Numbers.{act_of, first_word}
use Rattle.bound_core.specs.Core.{Core, sight_at, first_core}
use Rattle.bound_core.specs.Events.{after_each}

abbrev begun : Core
begun = first_core coin (tails ∷ [])

-- worker 0 publishes heads, worker 1 begins with what it knows, and both see the upper word of tails
abbrev shared : List Event
shared =
    Claim 0 ∷ Write 0 0 1 ∷ Publish 0 ∷ Split 0 ∷ SeeUpper 0 0 ∷ SeeUpper 1 0 ∷ []

abbrev six : Event
six = Sink 1 0 (word_of 6000000 0)

-- worker 0 sinks the word of tails twice, and worker 1 then once, from what it saw before
abbrev raced : List Event
raced =
    Sink 0 0 (word_of 6000000 0) ∷ SeeUpper 0 0 ∷ Sink 0 0 (word_of 4000000 0) ∷ six ∷ []

two_ids : (after_each coin begun shared).given ≡ 2
two_ids = refl

heads_is_published : (after_each coin begun shared).state_of 1 ≡ Some heads
heads_is_published = refl

goal_begins_closed : (after_each coin begun shared).upper heads ≡ word_of 0 AT_GOAL
goal_begins_closed = refl

tails_begins_open : first_word coin tails ≡ word_of 10000000 GIVE_UP
tails_begins_open = refl

both_know_heads : (sight_at coin (after_each coin begun shared) 1).knows 1 ≡ true
both_know_heads = refl

third_is_not_there : (sight_at coin (after_each coin begun shared) 2).live ≡ false
third_is_not_there = refl

-- the narrower word stays
least_word_stays : (after_each coin (after_each coin begun shared) raced).upper tails ≡ word_of 4000000 0
least_word_stays = refl

word_names_the_flip : act_of (word_of 4000000 0) ≡ Some 0
word_names_the_flip = refl

-- and worker 1 has seen it
narrower_is_seen :
    (sight_at coin (after_each coin (after_each coin begun shared) raced) 1).upper tails
    ≡ word_of 4000000 0
narrower_is_seen = refl

-- a worker that is joined ends, and the other one has seen what it saw
joined_ends : (sight_at coin (after_each coin begun (Split 0 ∷ Join 0 1 ∷ [])) 1).live ≡ false
joined_ends = refl

raised_is_lower : (after_each coin begun (Raise 0 0 1000000 ∷ [])).lower tails ≡ 1000000
raised_is_lower = refl
