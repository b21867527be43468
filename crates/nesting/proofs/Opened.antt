-- To unfold `opened` is to unfold every definition of this crate and of those below it that its examples need: for examples that compute.
use Rattle.regions.specs.Region.{regions_from, clear, sound}
use Rattle.nesting.specs.Outline.{placed, in_order, front, behind, nest, regions_of, depth}
use Rattle.nesting.specs.Nested.{count, Among, Parents, Sorted}
use Rattle.nesting.specs.Shams.{flat, first_holder, held_by, hung}

unfoldable pub opened : Unit {0}
unfolding regions_from clear sound placed in_order front behind nest regions_of depth count Among Parents Sorted flat first_holder held_by hung
opened = tt
