-- Subgoals that are marked wait in a heap.
use Rattle.std.specs.Prelude.{◌≡◌, ℕ, ◌≤◌, ◌==◌, ◌+◌, List, true, if◌then◌else◌}
use Rattle.std.specs.List.{sum_by}
use Rattle.std.specs.BinaryHeap.{heap_items}
use Rattle.np_relax.specs.Closed.{on}
use Rattle.np_table.specs.Tables.{Entry}
use Rattle.np_table.specs.Lowering.{height}
use Rattle.np_table.specs.declared.waiting.Waiting.{Waiting}

-- how often a subgoal is in the heap
abbrev pub times : Waiting → ℕ → ℕ
times waiting q = sum_by (λ x. if x.0.1 == q then 1 else 0) (heap_items waiting.heap)

-- how many are in the heap
abbrev pub size : Waiting → ℕ
size waiting = sum_by (λ x. 1) (heap_items waiting.heap)

-- what is left to do: entries can fall, and what is in the heap is taken out
abbrev pub left : List Entry → Waiting → ℕ
left entries waiting = height entries + height entries + size waiting

-- what is marked is in the heap
abbrev pub IsWaiting : Waiting → Type 0
IsWaiting waiting = (q : ℕ) → on waiting.marks.items q ≡ true → 1 ≤ times waiting q
