-- The words behind the part are moved behind the new ones, and all are put in its place.
use Rattle.std.proofs.Common.{arith}
use Rattle.steps.proofs.Copies.{end_low, splice_over, splice_done}
use Rattle.steps.proofs.area.splice.Goals as goal

pub overflow_add-end : goal.overflow_add-end
overflow_add-end c =
    let s = c.args in
    let low = end_low s.area.now s.size s.at s.new.now s.n c.told-area c.told-new c.requires.0 c.requires.1 c.requires.2 _ c.part_end.ensures in
    omega arith

pub overflow_sub-rest : goal.overflow_sub-rest
overflow_sub-rest c =
    let s = c.args in
    let low = end_low s.area.now s.size s.at s.new.now s.n c.told-area c.told-new c.requires.0 c.requires.1 c.requires.2 _ c.part_end.ensures in
    omega arith

pub returns-then-at-behind : goal.returns-then-at-behind
returns-then-at-behind c =
    let s = c.args in
    splice_over s.area.now s.size s.at s.new.now s.n c.told-area c.told-new c.requires.0 c.requires.1 c.requires.2 _ c.part_end.ensures c.if-at-behind.true _

pub offset_bounds-area-end : goal.offset_bounds-area-end
offset_bounds-area-end c =
    let s = c.args in
    let low = end_low s.area.now s.size s.at s.new.now s.n c.told-area c.told-new c.requires.0 c.requires.1 c.requires.2 _ c.part_end.ensures in
    omega arith

pub slice_bounds-copy-count : goal.slice_bounds-copy-count
slice_bounds-copy-count c =
    let s = c.args in
    let low = end_low s.area.now s.size s.at s.new.now s.n c.told-area c.told-new c.requires.0 c.requires.1 c.requires.2 _ c.part_end.ensures in
    omega arith

pub slice_bounds-copy-start : goal.slice_bounds-copy-start
slice_bounds-copy-start c =
    let s = c.args in
    let low = end_low s.area.now s.size s.at s.new.now s.n c.told-area c.told-new c.requires.0 c.requires.1 c.requires.2 _ c.part_end.ensures in
    omega arith

pub returns : goal.returns
returns c =
    let s = c.args in
    splice_done s.area.now s.size s.at s.new.now s.n c.told-area c.told-new c.requires.0 c.requires.1 c.requires.2 _ c.part_end.ensures c.if-at-behind.false _ _ c.copy.ensures c.copy-2.ensures
