-- Letters by name, for the words that the programs write.
use Rattle.std.specs.Prelude.{ℕ}

abbrev pub a : ℕ
a = 97

abbrev pub b : ℕ
b = 98

abbrev pub c : ℕ
c = 99

abbrev pub d : ℕ
d = 100

abbrev pub e : ℕ
e = 101

abbrev pub f : ℕ
f = 102

abbrev pub i : ℕ
i = 105

abbrev pub j : ℕ
j = 106

abbrev pub k : ℕ
k = 107

abbrev pub m : ℕ
m = 109

abbrev pub n : ℕ
n = 110

abbrev pub o : ℕ
o = 111

abbrev pub p : ℕ
p = 112

abbrev pub q : ℕ
q = 113

abbrev pub r : ℕ
r = 114

abbrev pub s : ℕ
s = 115

abbrev pub t : ℕ
t = 116

abbrev pub u : ℕ
u = 117

abbrev pub v : ℕ
v = 118

abbrev pub w : ℕ
w = 119

abbrev pub x : ℕ
x = 120

abbrev pub y : ℕ
y = 121

abbrev pub A : ℕ
A = 65

abbrev pub C : ℕ
C = 67

abbrev pub E : ℕ
E = 69

abbrev pub H : ℕ
H = 72

abbrev pub M : ℕ
M = 77

abbrev pub O : ℕ
O = 79

abbrev pub P : ℕ
P = 80

abbrev pub Q : ℕ
Q = 81

abbrev pub U : ℕ
U = 85
