use mathlib.Core.Path.{sym}
use lib.Seq.{length-take-le}
use borrow.Author.Rules.{rules}
use Rattle.removing.proofs.Removing.{marks_fit, removed}
use Rattle.removing.proofs.remove_marked.Goals as goal

pub overflow_mul-behind : goal.overflow_mul-behind
overflow_mul-behind c =
    let p = c.requires in
    let f = marks_fit _ p.0 _ p.1 in search rules

pub slice_bounds-close_up-end : goal.slice_bounds-close_up-end
slice_bounds-close_up-end c = let p = c.requires in marks_fit _ p.0 _ p.1

pub slice_bounds-close_up-end-2 : goal.slice_bounds-close_up-end-2
slice_bounds-close_up-end-2 c = let p = c.requires in sym (length-take-le _ _ (marks_fit _ p.0 _ p.1))

pub returns : goal.returns
returns c = let p = c.requires in removed _ p.0 _ p.1 _ _ c.close_up.ensures
