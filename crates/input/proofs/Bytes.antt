-- The bytes of an event read back as the event. Assumes nothing.
use Prim.Native.Nat.{ℕ, ◌+◌, ◌*◌, ◌<◌}
use mathlib.Core.Path.{◌≡◌}
use mathlib.Core.List.{List}
use native.Mathlib.Omega.{arith}
use lib.ListN.{get_or}
use Rattle.input.specs.Layout.{event_size, low, high, event_bytes, byte, word, event_in}
use Rattle.input.specs.declared.Event.{Event}

-- where they stand as the j-th event of a part
pub event_of_bytes : (part : List ℕ) (j : ℕ) (e : Event) → ((k : ℕ) → k < event_size → byte part (event_size * j + k) ≡ get_or (event_bytes e) k 0)
    → event_in part j ≡ e
unfolding event_in
event_of_bytes part j e at =
    let z : event_size * j + 0 ≡ event_size * j = omega arith in
    let five : event_size * j + 4 + 1 ≡ event_size * j + 5 = omega arith in
    let a : byte part (event_size * j) ≡ e.kind = rw z at (at 0 (omega arith)) in
    let b : byte part (event_size * j + 1) ≡ e.task = at 1 (omega arith) in
    let d : byte part (event_size * j + 2) ≡ e.resource = at 2 (omega arith) in
    let f : byte part (event_size * j + 4) ≡ low e.tick = at 4 (omega arith) in
    let g : byte part (event_size * j + 4 + 1) ≡ high e.tick = rw five (at 5 (omega arith)) in
    let t : word part (event_size * j + 4) ≡ e.tick = omega (arith, f, g) in
    rw (a, b, d, t)

-- and alone
pub event_read : (e : Event) → event_in (event_bytes e) 0 ≡ e
event_read e =
    event_of_bytes (event_bytes e) 0 e (λ k h. let z : 0 + k ≡ k = omega arith in rw z)
