use Rattle.std.specs.String.{string_bytes}
use Rattle.std.proofs.lemmas.Map.Text.{hash_map_updates_text}
use Rattle.indexmap.specs.IndexMap.{get_by_text}
use Rattle.np_io.proofs.Puts.{puts_update}
use Rattle.np_io.proofs.memory_shelf.place.Goals as goal

pub returns-clause-ok : goal.returns-clause-ok
returns-clause-ok c =
    puts_update (λ b. b.items) (get_by_text c.args.files.now) (get_by_text c.insert.new.self) (string_bytes c.in_ok-key.key) c.args.name.now c.args.bytes.now c.in_ok-value.value
    (hash_map_updates_text (string_bytes c.in_ok-key.key) c.args.files.now c.insert.new.self _ c.in_ok-insert.ensures.updates)
    c.in_ok-key.ensures.ok
    c.in_ok-value.ensures.items
