use Rattle.mz_board.proofs.board.Board.append.Given as goal

abbrev pub ghosts-count_entry : goal.ghosts-count_entry
ghosts-count_entry g a = record { list = g.T.Story.entries a.value.now }
