mod GameLemmas
