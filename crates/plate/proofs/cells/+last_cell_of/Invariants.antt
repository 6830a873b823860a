use Rattle.plate.proofs.cells.+last_cell_of.Given as goal

abbrev pub decreases-last_cell_of : goal.decreases-last_cell_of
decreases-last_cell_of l = l.n
