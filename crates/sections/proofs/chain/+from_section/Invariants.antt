use Rattle.sections.proofs.chain.+from_section.Given as goal

abbrev pub decreases-from_section : goal.decreases-from_section
decreases-from_section l = l.k
