use Rattle.search.proofs.+visit.Given as goal

-- What falls at each call.
abbrev pub decreases-visit : goal.decreases-visit
decreases-visit l = l.k
