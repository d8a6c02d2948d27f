-- What the words of a command line ask for. `given` is what stands under a name: the value of an option,
-- without its hyphens, or a positional word.
--     Sources, sources_of given    the texts of a task and the terms on which it is read
--     lower_named name, lower_of text
--                                  what is told of the cost from below where this is given; nothing where nothing is
--     ends_named name, ends_of text
--                                  where trials end under this name; at the first new state where none is given
--     progress_named name, progress_of text
--                                  whether the rounds of a search are told where this is given; not where nothing is
--     Solving, solving_of lower given
--                                  a task to solve, the name of its certificate, the search, and what it tells from
--                                  below and while it goes on
--     Merging, merging_of given    two certificates of a task to merge, and the name under which what comes of them goes
--     Walking, walking_of given    walks to make under the policy of a certificate
--     Drawing, drawing_of given    the graph of a certificate's policy to draw, and the name under which its text goes
--     effort_of given              when the search ends and what its trials are
--     swept_unasked ends most      the states that each round goes through where no number is given, at most so many
--     sizes_of ends given          the sizes of a search whose trials end so
--     Asked                        a request
--     asked_as command given       what a command asks for
--     given_in f items             what stands under a name in words in form
--     request_of words             the request of the words behind the program's name, if they have one
--     spelled_word w               a word as it is read: `--progress` is its option with its one value
--     request_as_read words        the request of words as they are read
-- Amounts are in micro-units, a millionth of a unit.
use Rattle.std.specs.Prelude.{ℕ, ◌-◌, ◌^◌, min, if◌then◌else◌, Bool, true, false, List, map, Option, Some, None, option_map, position, slice_get, codes}
use Rattle.std.specs.Str.{bytes_eq}
use Rattle.plan_request.specs.words.Words.{Text, Item, positionals_of, value_of}
use Rattle.plan_request.specs.words.Table.{Form}
use Rattle.plan_request.specs.words.Scans.{formed}
use Rattle.plan_request.specs.declared.command.Command.{Command}
use Rattle.plan_request.specs.declared.command.Command.TheVariants.{Solve, Check, Serve, Ground, Bench, Merge, Walk, Draw}
use Rattle.plan_request.specs.declared.effort.Effort.{Effort}
use Rattle.plan_request.specs.declared.ends.Ends.{Ends}
use Rattle.plan_request.specs.declared.ends.Ends.TheVariants as to
use Rattle.plan_request.specs.declared.lower.Lower.{Lower}
use Rattle.plan_request.specs.declared.lower.Lower.TheVariants as lowers
use Rattle.plan_request.specs.declared.sizes.Sizes.{Sizes}
use Rattle.plan_request.specs.Numbers.{◌>>=◌, whole, amount, unless_given}
use Rattle.plan_request.specs.Commands.{command_named}

abbrev pub Given : Type 0
Given = Text → Option Text

-- ---- the parts of requests

pub record Sources : Type 0 where
  pub domain : Text
  pub problem : Option Text
  pub penalty : Option ℕ
  pub step_cost : ℕ

-- none is given, or one from a micro-unit to 10^8 units
unfoldable pub penalty_of : Option Text → Option (Option ℕ)
penalty_of = unless_given None (λ text. option_map Some (amount 1 (10 ^ 14) text))

unfoldable pub sources_of : Given → Option Sources
sources_of given = do
  domain ← given (codes "DOMAIN")
  penalty ← penalty_of (given (codes "penalty"))
  step_cost ← unless_given 0 (amount 0 (10 ^ 12)) (given (codes "step-cost"))
  Some (record { domain = domain; problem = given (codes "problem"); penalty = penalty; step_cost = step_cost })

unfoldable pub ends_named : Text → Option Ends
ends_named name =
    if bytes_eq (codes "depth") name then Some to.Depth
    else if bytes_eq (codes "new") name then Some to.New
    else None

abbrev pub ends_of : Option Text → Option Ends
ends_of = unless_given to.New ends_named

unfoldable pub effort_of : Given → Option Effort
effort_of given = do
  gap ← unless_given 1000 (amount 0 (10 ^ 14)) (given (codes "gap"))
  rounds ← unless_given 1000 (whole 0 100000) (given (codes "rounds"))
  trials ← unless_given 64 (whole 0 4096) (given (codes "trials"))
  depth ← unless_given 1000 (whole 1 10000) (given (codes "depth"))
  tau ← unless_given 10 (whole 1 1000) (given (codes "tau"))
  seed ← unless_given 1 (whole 0 (2 ^ 64 - 1)) (given (codes "seed"))
  ends ← ends_of (given (codes "ends"))
  Some (record {
    gap = gap;
    rounds = rounds;
    trials = trials;
    depth = depth;
    tau = tau;
    seed = seed;
    ends = ends;
  })

-- trials that end at new states list the states that a sweep is then good for
abbrev pub swept_unasked : Ends → ℕ → ℕ
swept_unasked to.Depth most = min 4096 most
swept_unasked to.New most = 64

unfoldable pub sizes_of : Ends → Given → Option Sizes
sizes_of ends given = do
  workers ← unless_given 4 (whole 1 16) (given (codes "workers"))
  states ← unless_given 65536 (whole 65 262144) (given (codes "states"))
  sweep_states ← unless_given (swept_unasked ends (states - 1)) (whole 64 (states - 1)) (given (codes "sweep-states"))
  Some (record { workers = workers; states = states; sweep_states = sweep_states })

unfoldable pub lower_named : Text → Option Lower
lower_named name =
    if bytes_eq (codes "none") name then Some lowers.None
    else if bytes_eq (codes "cost") name then Some lowers.Cost
    else if bytes_eq (codes "relaxed") name then Some lowers.Relaxed
    else None

abbrev pub lower_of : Option Text → Option Lower
lower_of = unless_given lowers.None lower_named

unfoldable pub progress_named : Text → Option Bool
progress_named name = if bytes_eq (codes "lines") name then Some true else None

abbrev pub progress_of : Option Text → Option Bool
progress_of = unless_given false progress_named

pub record Solving : Type 0 where
  pub sources : Sources
  pub certificate : Text
  pub effort : Effort
  pub sizes : Sizes
  pub lower : Lower
  pub progress : Bool

unfoldable pub solving_of : Lower → Given → Option Solving
solving_of lower given = do
  sources ← sources_of given
  certificate ← given (codes "cert")
  effort ← effort_of given
  sizes ← sizes_of effort.ends given
  progress ← progress_of (given (codes "progress"))
  Some (record {
    sources = sources;
    certificate = certificate;
    effort = effort;
    sizes = sizes;
    lower = lower;
    progress = progress;
  })

pub record Merging : Type 0 where
  pub sources : Sources
  pub first : Text
  pub second : Text
  pub into : Text

unfoldable pub merging_of : Given → Option Merging
merging_of given = do
  sources ← sources_of given
  first ← given (codes "cert")
  second ← given (codes "with")
  into ← given (codes "into")
  Some (record { sources = sources; first = first; second = second; into = into })

pub record Walking : Type 0 where
  pub sources : Sources
  pub certificate : Text
  pub seed : ℕ
  pub walks : ℕ
  pub steps : ℕ

unfoldable pub walking_of : Given → Option Walking
walking_of given = do
  sources ← sources_of given
  certificate ← given (codes "cert")
  seed ← unless_given 1 (whole 0 (2 ^ 64 - 1)) (given (codes "seed"))
  walks ← unless_given 10 (whole 1 100) (given (codes "walks"))
  steps ← unless_given 1000 (whole 1 10000) (given (codes "steps"))
  Some (record { sources = sources; certificate = certificate; seed = seed; walks = walks; steps = steps })

pub record Drawing : Type 0 where
  pub sources : Sources
  pub certificate : Text
  pub into : Text
  pub states : ℕ

unfoldable pub drawing_of : Given → Option Drawing
drawing_of given = do
  sources ← sources_of given
  certificate ← given (codes "cert")
  into ← given (codes "into")
  states ← unless_given 200 (whole 1 10000) (given (codes "states"))
  Some (record { sources = sources; certificate = certificate; into = into; states = states })

-- ---- requests

pub data Asked : Type 0 where
  to_solve : Solving → Asked
  to_check : Sources → Text → Asked
  to_serve : Solving → Asked
  to_ground : Sources → Asked
  -- the places, and the seed
  to_bench : ℕ → ℕ → Asked
  to_merge : Merging → Asked
  to_walk : Walking → Asked
  to_draw : Drawing → Asked

unfoldable pub solved_of : Given → Option Asked
solved_of given = do
  lower ← lower_of (given (codes "lower"))
  solving ← solving_of lower given
  Some (to_solve solving)

unfoldable pub checked_of : Given → Option Asked
checked_of given = do
  sources ← sources_of given
  certificate ← given (codes "cert")
  Some (to_check sources certificate)

unfoldable pub benched_of : Given → Option Asked
benched_of given = do
  places ← given (codes "N") >>= whole 2 1000
  seed ← given (codes "SEED") >>= whole 0 (2 ^ 64 - 1)
  Some (to_bench places seed)

abbrev pub asked_as : Command → Given → Option Asked
asked_as Solve given = solved_of given
asked_as Check given = checked_of given
asked_as Serve given = option_map to_serve (solving_of lowers.None given)
asked_as Ground given = option_map to_ground (sources_of given)
asked_as Bench given = benched_of given
asked_as Merge given = option_map to_merge (merging_of given)
asked_as Walk given = option_map to_walk (walking_of given)
asked_as Draw given = option_map to_draw (drawing_of given)

abbrev pub asked_by : Text → Given → Option Asked
asked_by name given = command_named name >>= λ command. asked_as command given

abbrev pub given_at : List Item → Text → Option ℕ → Option Text
given_at items name (Some i) = slice_get (positionals_of items) i
given_at items name None = value_of name items

abbrev pub given_in : Form → List Item → Given
given_in f items name = given_at items name (position (λ n. bytes_eq n name) f.words)

unfoldable pub request_of : List Text → Option Asked
request_of words = formed words >>= λ (f, items). asked_by f.name (given_in f items)

unfoldable pub spelled_word : Text → Text
spelled_word w = if bytes_eq (codes "--progress") w then codes "--progress=lines" else w

abbrev pub request_as_read : List Text → Option Asked
request_as_read words = request_of (map spelled_word words)
