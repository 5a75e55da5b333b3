-- The parameter file.
use Rattle.std.specs.Prelude.{ℕ, List, ◌++◌, codes, decimal}

abbrev pub lines_of_files : List ℕ
lines_of_files =
    codes "PUNAME pu.dat\nFEATNAME feat.dat\nPUVSFEATNAME amounts.dat\nBOUNDNAME bound.dat\n"
    ++ codes "ZONESNAME zones.dat\nZONECOSTNAME zonecost.dat\nZONEBOUNDCOSTNAME zonebound.dat\n"
    ++ codes "ZONECONTRIBNAME contrib.dat\nZONETARGETNAME ztarget.dat\n"
    ++ codes "PULOCKNAME pulock.dat\nPUZONENAME puzone.dat\n"

abbrev pub lines_of_run : List ℕ
lines_of_run =
    codes "NUMREPS 1\nNUMITNS 100000\nSTARTTEMP -1\nNUMTEMP 1000\nRUNMODE 6\n"
    ++ codes "SAVEBEST 3\nSAVESUMMARY 3\nSAVETURNS 2\n"

-- the number is the random seed
unfoldable pub parameters_text : ℕ → List ℕ
parameters_text number =
    lines_of_files ++ codes "BLM 0.5\nRANDSEED " ++ decimal number ++ codes "\n" ++ lines_of_run
