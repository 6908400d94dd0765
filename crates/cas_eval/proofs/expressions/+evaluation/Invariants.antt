-- How deep expressions are: those that evaluate operands stand above the deeper one.
use Rattle.std.proofs.Common.{◌+◌, ◌*◌, max, []}
use Rattle.cas_eval.proofs.expressions.+evaluation.Given as goal

abbrev pub decreases-evaluate : goal.decreases-evaluate
decreases-evaluate l = 3 * goal.size-evaluate l

abbrev pub decreases-truth_of : goal.decreases-truth_of
decreases-truth_of l = 3 * goal.size-truth_of l + 1

abbrev pub decreases-element : goal.decreases-element
decreases-element l = 3 * goal.size-element l + 2

abbrev pub decreases-behind : goal.decreases-behind
decreases-behind l = 3 * goal.size-behind l + 2

abbrev pub decreases-unary_of : goal.decreases-unary_of
decreases-unary_of l = 3 * goal.size-unary_of l + 2

abbrev pub decreases-narrow_of : goal.decreases-narrow_of
decreases-narrow_of l = 3 * goal.size-narrow_of l + 2

abbrev pub decreases-pointer_plus : goal.decreases-pointer_plus
decreases-pointer_plus l =
    3 * max (goal.size-evaluate
    (record { the-lifetimes = ([], ([], ([], tt {0}))); context = l.context; expr = l.pointer }))
    (goal.size-evaluate (record { the-lifetimes = ([], ([], ([], tt {0}))); context = l.context; expr = l.number })) + 2

abbrev pub decreases-plus_pointer : goal.decreases-plus_pointer
decreases-plus_pointer l =
    3 * max (goal.size-evaluate
    (record { the-lifetimes = ([], ([], ([], tt {0}))); context = l.context; expr = l.number }))
    (goal.size-evaluate (record { the-lifetimes = ([], ([], ([], tt {0}))); context = l.context; expr = l.pointer }))
    + 2

abbrev pub decreases-pointer_minus : goal.decreases-pointer_minus
decreases-pointer_minus l =
    3 * max (goal.size-evaluate
    (record { the-lifetimes = ([], ([], ([], tt {0}))); context = l.context; expr = l.pointer }))
    (goal.size-evaluate (record { the-lifetimes = ([], ([], ([], tt {0}))); context = l.context; expr = l.number })) + 2

abbrev pub decreases-pointer_difference : goal.decreases-pointer_difference
decreases-pointer_difference l =
    3 * max (goal.size-evaluate (record { the-lifetimes = ([], ([], ([], tt {0}))); context = l.context; expr = l.a }))
    (goal.size-evaluate (record { the-lifetimes = ([], ([], ([], tt {0}))); context = l.context; expr = l.b })) + 2

abbrev pub decreases-compare : goal.decreases-compare
decreases-compare l =
    3 * max (goal.size-evaluate (record { the-lifetimes = ([], ([], ([], tt {0}))); context = l.context; expr = l.a }))
    (goal.size-evaluate (record { the-lifetimes = ([], ([], ([], tt {0}))); context = l.context; expr = l.b })) + 2

abbrev pub decreases-binary_of : goal.decreases-binary_of
decreases-binary_of l =
    3 * max (goal.size-evaluate (record { the-lifetimes = ([], ([], ([], tt {0}))); context = l.context; expr = l.a }))
    (goal.size-evaluate (record { the-lifetimes = ([], ([], ([], tt {0}))); context = l.context; expr = l.b })) + 2

abbrev pub decreases-and_also : goal.decreases-and_also
decreases-and_also l =
    3 * max (goal.size-evaluate (record { the-lifetimes = ([], ([], ([], tt {0}))); context = l.context; expr = l.a }))
    (goal.size-evaluate (record { the-lifetimes = ([], ([], ([], tt {0}))); context = l.context; expr = l.b })) + 2

abbrev pub decreases-or_else : goal.decreases-or_else
decreases-or_else l =
    3 * max (goal.size-evaluate (record { the-lifetimes = ([], ([], ([], tt {0}))); context = l.context; expr = l.a }))
    (goal.size-evaluate (record { the-lifetimes = ([], ([], ([], tt {0}))); context = l.context; expr = l.b })) + 2

abbrev pub decreases-choose : goal.decreases-choose
decreases-choose l =
    3 * max (goal.size-evaluate
    (record { the-lifetimes = ([], ([], ([], tt {0}))); context = l.context; expr = l.test }))
    (max (goal.size-evaluate (record { the-lifetimes = ([], ([], ([], tt {0}))); context = l.context; expr = l.a }))
    (goal.size-evaluate (record { the-lifetimes = ([], ([], ([], tt {0}))); context = l.context; expr = l.b }))) + 2
