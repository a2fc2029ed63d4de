-- How deep a sheet nests.
use Rattle.std.specs.Prelude.{ℕ, ◌+◌, max}
use Rattle.writer.specs.Forest.{Forest, no_more, leaf, box}

-- Object bodies and array bodies nest to 64 levels, root not counted
abbrev pub most_levels : ℕ
most_levels = 64

-- each container is a level, an empty one too; a Header adds none
unfoldable pub levels : Forest → ℕ
levels no_more = 0
levels (leaf x rest) = levels rest
levels (box kind flag inner rest) = max (levels inner + 1) (levels rest)
