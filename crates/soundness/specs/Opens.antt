-- What the clauses of the open requests and of the queues say of one request or one place: over the state, and over the
-- open requests of one task.
use Rattle.std.specs.Prelude.{ℕ, ◌+◌, Bool, ◌&&◌, List, length, take, leb, ltb, get_or}
use Rattle.search.specs.Words.{◌is◌, ◌implies◌}
use Rattle.search.specs.Below.{all_below}
use Rattle.queue.specs.Limits.{capacity}
use Rattle.queue.specs.Waiting.{place_of}
use Rattle.input.specs.Kinds.{long}
use Rattle.input.specs.Words.{kind}
use Rattle.numbers.specs.Limits.{most_requests, nothing}
use Rattle.setups.specs.Naming.{group_of}
use Rattle.protocol.specs.Words.{spinning, suspended, group, stand, asked, holder}
use Rattle.protocol.specs.declared.State.{State}

-- the request at place i is at no other place
abbrev pub is_once : List ℕ → ℕ → Bool
is_once opened i = all_below (length opened) (λ k. get_or opened i nothing is get_or opened k nothing implies i is k)

-- nothing is open of a job that is suspended, as its standing has the number n, and fewer than eight requests of any
abbrev pub has_room : ℕ → ℕ → Bool
has_room n depth = (n is suspended implies depth is 0) && ltb depth most_requests

module _ (s : State) where
  -- resource r is in the table, and t holds its group
  abbrev pub is_held : ℕ → ℕ → Bool
  is_held t r = ltb r s.setup.resources && holder s (group_of s.setup r) is t

  -- resource r is long
  abbrev pub is_long : ℕ → Bool
  is_long r = kind s.setup r is long

  -- the requests are long
  abbrev pub are_long : List ℕ → Bool
  are_long opened = all_below (length opened) (λ k. is_long (get_or opened k nothing))

  -- if the request at place i is long, so are those before it
  abbrev pub is_in_order : List ℕ → ℕ → Bool
  is_in_order opened i = is_long (get_or opened i nothing) implies are_long (take i opened)

  -- resources a and b are in one group if they are of one kind
  abbrev pub are_together : ℕ → ℕ → Bool
  are_together a b = kind s.setup a is kind s.setup b implies group_of s.setup a is group_of s.setup b

  -- the requests of the kind of resource a are in its group
  abbrev pub is_together : List ℕ → ℕ → Bool
  is_together opened a = all_below (length opened) (λ k. are_together a (get_or opened k nothing))

  -- the open requests of task t are of resources in the table, whose groups t holds; they are distinct, longs before
  -- shorts, those of one kind in one group
  abbrev pub opened_sound : ℕ → List ℕ → Bool
  opened_sound t opened =
      all_below (length opened) (λ i. is_held t (get_or opened i nothing)) && all_below (length opened) (is_once opened)
      && all_below (length opened) (is_in_order opened)
      && all_below (length opened) (λ i. is_together opened (get_or opened i nothing))

  -- resource r is in the table, and of the kind that a job waits by whose standing has the number n
  abbrev pub is_asked : ℕ → ℕ → Bool
  is_asked n r = ltb r s.setup.resources && n is spinning + kind s.setup r

  -- task t is in the queue of group g
  abbrev pub is_queued : ℕ → ℕ → Bool
  is_queued g t = ltb (place_of (group s g).queue t) capacity

  -- task t waits, and for a resource of group g
  abbrev pub waits_in : ℕ → ℕ → Bool
  waits_in g t = leb spinning (stand s t) && group_of s.setup (asked s t) is g
