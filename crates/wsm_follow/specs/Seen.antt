-- What the types of the code stand for.
use Rattle.std.specs.Prelude.{ℕ, List, Option}
use Rattle.wsm_follow.specs.Position.{Place, place_if}
use Rattle.wsm_follow.specs.declared.position.Name.{Name}
use Rattle.wsm_follow.specs.declared.position.Parts.{Parts}
use Rattle.wsm_follow.specs.declared.position.Position.{Position}

abbrev pub name_seen : Name → List ℕ
name_seen n = n.bytes.items

abbrev pub place_in : Position → Place
place_in p = record { file = p.file; offset = p.offset; head = p.head; tail = p.tail; name = name_seen p.name }

abbrev pub place_if_parts : Parts → Option Place
place_if_parts p = place_if p.device p.inode p.offset (p.head, p.name.now) (p.tail, p.name.now)
